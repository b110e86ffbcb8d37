-- ALTER TABLE is written so that it is read again.
use Rattle.std.proofs.Common.{◌≡◌, ℕ, is_some, List, ◌∷◌, refl, codes}
use Rattle.std.proofs.lemmas.List.{append-nil}
use Rattle.sql_tokens.specs.declared.token.TokenKind.TheVariants as kind
use Rattle.sql_text.specs.declared.stmt.Stmt.TheVariants as stmt
use Rattle.sql_text.specs.declared.stmt.AlterKind.TheVariants as alter
use Rattle.sql_text.specs.declared.clause.Clause.TheVariants as clause
use Rattle.sql_text.specs.declared.clause.ColumnPlace.TheVariants as place
use Rattle.sql_text.specs.Alter.{IsKey, Altered, Place, AddedColumn, DropColumn, ModifyColumn, OrderColumns, Clause_, AddPart, AddRollup, Clauses, Alter, Kind, Cancel}
use Rattle.sql_print.specs.Parts.{maybe, when, keyword}
use Rattle.sql_print.specs.ShownAlter.{altered_tokens, place_tokens, clause_tokens, alter_tokens, add_partition_tokens, rollup_tokens, add_rollup_tokens, clauses_tokens, kind_tokens, cancel_tokens}
use Rattle.sql_print.specs.Shown.{shown}
use Rattle.sql_print.proofs.Prints.{Prints, By, is, part, last, or, optional, flag, skip}
use Rattle.sql_print.proofs.PrintsTokens.{word, means, word_prints, name_prints}
use Rattle.sql_print.proofs.PrintsParts.{commas_print, names_prints, type_prints, agg_prints, nullable_prints, default_prints, no_comment}
use Rattle.sql_print.proofs.PrintsCreate.{part_prints}

is_key_prints : Prints IsKey (By (λ k. when k (keyword (codes "KEY"))))
unfolding IsKey
is_key_prints = last is_some (flag (word_prints (codes "KEY") (refl, refl))) (λ o. refl)

altered_prints : Prints Altered (By altered_tokens)
unfolding Altered altered_tokens
altered_prints =
    part name_prints (λ n.
    part type_prints (λ t.
    part is_key_prints (λ k.
    part (optional agg_prints) (λ a.
    part nullable_prints (λ u.
    part default_prints (λ d.
    skip tt no_comment (is _ (record { name = n; kind = t; key = k; agg = a; nullable = u; default = d }) (rw (append-nil (maybe _ d)) refl))))))))

place_prints : Prints Place (By place_tokens)
unfolding Place place_tokens
place_prints = or (means (codes "FIRST") (refl, refl) place.First refl) (word (codes "AFTER") (refl, refl) (last place.After name_prints (λ n. refl)))

added_prints : Prints AddedColumn (λ c ks. kind.Word (codes "ADD") ∷ ks ≡ clause_tokens c)
unfolding AddedColumn clause_tokens
added_prints = word (codes "COLUMN") (refl, refl) (part altered_prints (λ c. last (clause.Add c) (optional place_prints) (λ p. refl)))

drop_prints : Prints DropColumn (By clause_tokens)
unfolding DropColumn clause_tokens
drop_prints = word (codes "DROP") (refl, refl) (word (codes "COLUMN") (refl, refl) (last clause.Drop name_prints (λ n. refl)))

modify_prints : Prints ModifyColumn (By clause_tokens)
unfolding ModifyColumn clause_tokens
modify_prints = word (codes "MODIFY") (refl, refl) (word (codes "COLUMN") (refl, refl) (last clause.Modify altered_prints (λ c. refl)))

order_prints : Prints OrderColumns (By clause_tokens)
unfolding OrderColumns clause_tokens
order_prints = word (codes "ORDER") (refl, refl) (word (codes "BY") (refl, refl) (last clause.Order names_prints (λ ns. refl)))

clause_prints : Prints Clause_ (By clause_tokens)
unfolding Clause_
clause_prints = or (word (codes "ADD") (refl, refl) added_prints) (or drop_prints (or modify_prints order_prints))

add_part_prints : (table : List ℕ) → Prints (AddPart table) (λ s ks. alter_tokens table ks ≡ shown s)
unfolding AddPart shown add_partition_tokens
add_part_prints table = word (codes "ADD") (refl, refl) (last (stmt.AddPartition table) part_prints (λ p. refl))

add_rollup_prints : (table : List ℕ) → Prints (AddRollup table) (λ s ks. alter_tokens table ks ≡ shown s)
unfolding AddRollup shown add_rollup_tokens rollup_tokens
add_rollup_prints table =
    word (codes "ADD") (refl, refl)
    (word (codes "ROLLUP") (refl, refl)
    (part name_prints (λ n. last (stmt.AddRollup table n) names_prints (λ ns. refl))))

clauses_print : (table : List ℕ) → Prints (Clauses table) (λ s ks. alter_tokens table ks ≡ shown s)
unfolding Clauses shown clauses_tokens
clauses_print table = last (stmt.Alter table) (commas_print clause_prints) (λ cs. refl)

pub alter_prints : Prints Alter (By shown)
unfolding Alter
alter_prints =
    word (codes "ALTER") (refl, refl)
    (word (codes "TABLE") (refl, refl)
    (part name_prints (λ table. or (add_part_prints table) (or (add_rollup_prints table) (clauses_print table)))))

pub kind_prints : Prints Kind (By kind_tokens)
unfolding Kind kind_tokens
kind_prints = or (means (codes "COLUMN") (refl, refl) alter.Column refl) (means (codes "ROLLUP") (refl, refl) alter.Rollup refl)

pub cancel_prints : Prints Cancel (By shown)
unfolding Cancel shown cancel_tokens
cancel_prints =
    word (codes "CANCEL") (refl, refl)
    (word (codes "ALTER") (refl, refl)
    (word (codes "TABLE") (refl, refl)
    (part kind_prints (λ k. word (codes "FROM") (refl, refl) (last (stmt.CancelAlter k) name_prints (λ n. refl))))))
