-- The tokens of ALTER TABLE. Comments are not written.
use Rattle.std.specs.Prelude.{ℕ, List, [], ◌∷◌, ◌++◌, codes}
use Rattle.sql_tokens.specs.declared.token.TokenKind.{TokenKind}
use Rattle.sql_tokens.specs.declared.token.TokenKind.TheVariants as kind
use Rattle.sql_text.specs.declared.stmt.AlterKind.{AlterKind}
use Rattle.sql_text.specs.declared.stmt.AlterKind.TheVariants as alter
use Rattle.sql_text.specs.declared.clause.Clause.{Clause}
use Rattle.sql_text.specs.declared.clause.Clause.TheVariants as clause
use Rattle.sql_text.specs.declared.clause.AlteredColumn.{AlteredColumn}
use Rattle.sql_text.specs.declared.clause.ColumnPlace.{ColumnPlace}
use Rattle.sql_text.specs.declared.clause.ColumnPlace.TheVariants as place
use Rattle.sql_text.specs.declared.part.Part.{Part}
use Rattle.sql_print.specs.Parts.{maybe, when, commas, keyword, names, type_tokens, agg_tokens, nullable_tokens, default_tokens}
use Rattle.sql_print.specs.ShownCreate.{part_tokens}

unfoldable pub altered_tokens : AlteredColumn → List TokenKind
altered_tokens c =
    kind.Quoted c.name ∷ (type_tokens c.kind ++ (when c.key (keyword (codes "KEY"))
    ++ (maybe agg_tokens c.agg ++ (nullable_tokens c.nullable ++ maybe default_tokens c.default))))

unfoldable pub place_tokens : ColumnPlace → List TokenKind
place_tokens place.First = keyword (codes "FIRST")
place_tokens (place.After n) = kind.Word (codes "AFTER") ∷ kind.Quoted n ∷ []

unfoldable pub clause_tokens : Clause → List TokenKind
clause_tokens (clause.Add c p) = kind.Word (codes "ADD") ∷ kind.Word (codes "COLUMN") ∷ (altered_tokens c ++ maybe place_tokens p)
clause_tokens (clause.Drop n) = kind.Word (codes "DROP") ∷ kind.Word (codes "COLUMN") ∷ kind.Quoted n ∷ []
clause_tokens (clause.Modify c) = kind.Word (codes "MODIFY") ∷ kind.Word (codes "COLUMN") ∷ altered_tokens c
clause_tokens (clause.Order ns) = kind.Word (codes "ORDER") ∷ kind.Word (codes "BY") ∷ names ns

-- ALTER TABLE name, and what stands behind it
abbrev pub alter_tokens : List ℕ → List TokenKind → List TokenKind
alter_tokens table more = kind.Word (codes "ALTER") ∷ kind.Word (codes "TABLE") ∷ kind.Quoted table ∷ more

unfoldable pub add_partition_tokens : List ℕ → Part → List TokenKind
add_partition_tokens table p = alter_tokens table (kind.Word (codes "ADD") ∷ part_tokens p)

unfoldable pub rollup_tokens : List ℕ → List (List ℕ) → List TokenKind
rollup_tokens n ns = kind.Word (codes "ADD") ∷ kind.Word (codes "ROLLUP") ∷ kind.Quoted n ∷ names ns

unfoldable pub add_rollup_tokens : List ℕ → List ℕ → List (List ℕ) → List TokenKind
add_rollup_tokens table n ns = alter_tokens table (rollup_tokens n ns)

unfoldable pub clauses_tokens : List ℕ → List Clause → List TokenKind
clauses_tokens table cs = alter_tokens table (commas clause_tokens cs)

unfoldable pub kind_tokens : AlterKind → List TokenKind
kind_tokens alter.Column = keyword (codes "COLUMN")
kind_tokens alter.Rollup = keyword (codes "ROLLUP")

unfoldable pub cancel_tokens : AlterKind → List ℕ → List TokenKind
cancel_tokens k table =
    kind.Word (codes "CANCEL") ∷ kind.Word (codes "ALTER") ∷ kind.Word (codes "TABLE")
    ∷ (kind_tokens k ++ (kind.Word (codes "FROM") ∷ kind.Quoted table ∷ []))
