-- ALTER TABLE is read by its reader.
use Rattle.std.proofs.Common.{◌≡◌, ◌<◌, ℕ, true, false, List, [], ◌∷◌, ◌++◌, length, is_some, Result, codes, refl, sym, ap, ◌∙◌, append_assoc, inl, inr}
use Rattle.std.specs.Prelude.{IfOk}
use Rattle.sql_tokens.specs.declared.token.Token.{Token}
use Rattle.sql_tokens.specs.declared.token.Sign.TheVariants as sign
use Rattle.sql_text.specs.declared.stmt.Stmt.{Stmt}
use Rattle.sql_text.specs.declared.stmt.Stmt.TheVariants as stmt
use Rattle.sql_text.specs.declared.stmt.AlterKind.TheVariants as kind
use Rattle.sql_text.specs.declared.clause.Clause.{Clause}
use Rattle.sql_text.specs.declared.clause.Clause.TheVariants as clause
use Rattle.sql_text.specs.declared.clause.ColumnPlace.TheVariants as place
use Rattle.sql_grammar.specs.declared.stop.Stop.{Stop}
use Rattle.sql_grammar.specs.Marks.{Mark, marked_word, marked_sign, marked_name, a_sign}
use Rattle.sql_grammar.specs.Lang.{Tok, Is, Then, Or, Maybe, Many, Word}
use Rattle.sql_grammar.specs.Reading.{Gives, more_of}
use Rattle.sql_grammar.proofs.Laws.{Reads, is_reads, next_reads, either_reads, maybe_reads, many_reads, reads_along, leaves_less}
use Rattle.sql_grammar.proofs.Singles.{word_reads, sign_reads, means_reads, name_reads}
use Rattle.sql_text.specs.Names.{Name, Names}
use Rattle.sql_text.specs.Create.{Part_}
use Rattle.sql_text.specs.Alter.{IsKey, Altered, Place, AddedColumn, DropColumn, ModifyColumn, OrderColumns, Clause_, AddPart, AddRollup, Clauses, Alter, Kind, Cancel}
use Rattle.sql_text.specs.ReadAlter.{is_key_at, altered_at, place_first, place_at, maybe_place_at, added_column_at, dropped_column_at, drop_column_at, modified_column_at, modify_column_at, order_columns_at, other_clause_at, clause_at, clauses_from_at, added_rollup_at, rollup_at, add_part_at, add_column_at, addition_at, alteration_at, alter_table_at, alter_at, kind_at, cancelled_at, cancel_at}
use Rattle.sql_text.proofs.NamesReads.{word, names_read, type_reads, maybe_agg_reads, nullable_reads, default_reads, comment_reads}
use Rattle.sql_text.proofs.CreateReads.{column_more, part_reads}

-- ---- columns

is_key_reads : Reads IsKey is_key_at (word (codes "KEY")) (word (codes "KEY")) true
unfolding is_key_at IsKey
is_key_reads = next_reads (maybe_reads (word_reads (codes "KEY") refl)) (λ o. is_reads (is_some o)) refl

abbrev altered_more : List Mark
altered_more = column_more ++ word (codes "KEY")

altered_reads : Reads Altered altered_at (marked_name ∷ []) altered_more false
unfolding altered_at Altered Name
altered_reads = next_reads name_reads (λ n. next_reads type_reads (λ t. next_reads is_key_reads (λ k. next_reads maybe_agg_reads (λ a. next_reads nullable_reads (λ u. next_reads default_reads (λ d. next_reads comment_reads (λ _. is_reads _) refl) refl) refl) refl) refl) refl) refl

maybe_place_reads : Reads (Maybe Place) maybe_place_at place_first place_first true
unfolding maybe_place_at place_at Place Name
maybe_place_reads = maybe_reads (either_reads (means_reads (codes "FIRST") place.First refl) (next_reads (word_reads (codes "AFTER") refl) (λ _. next_reads name_reads (λ n. is_reads (place.After n)) refl) refl) refl)

-- ---- clauses

abbrev added_more : List Mark
added_more = place_first ++ altered_more

added_column_reads : Reads AddedColumn added_column_at (word (codes "COLUMN")) added_more false
unfolding added_column_at AddedColumn
added_column_reads = next_reads (word_reads (codes "COLUMN") refl) (λ _. next_reads altered_reads (λ c. next_reads maybe_place_reads (λ p. is_reads (clause.Add c p)) refl) refl) refl

drop_column_reads : Reads DropColumn drop_column_at (word (codes "DROP")) [] false
unfolding drop_column_at dropped_column_at DropColumn Name
drop_column_reads = next_reads (word_reads (codes "DROP") refl) (λ _. next_reads (word_reads (codes "COLUMN") refl) (λ _. next_reads name_reads (λ n. is_reads (clause.Drop n)) refl) refl) refl

modify_column_reads : Reads ModifyColumn modify_column_at (word (codes "MODIFY")) altered_more false
unfolding modify_column_at modified_column_at ModifyColumn
modify_column_reads = next_reads (word_reads (codes "MODIFY") refl) (λ _. next_reads (word_reads (codes "COLUMN") refl) (λ _. next_reads altered_reads (λ c. is_reads (clause.Modify c)) refl) refl) refl

order_columns_read : Reads OrderColumns order_columns_at (word (codes "ORDER")) [] false
unfolding order_columns_at OrderColumns
order_columns_read = next_reads (word_reads (codes "ORDER") refl) (λ _. next_reads (word_reads (codes "BY") refl) (λ _. next_reads names_read (λ ns. is_reads (clause.Order ns)) refl) refl) refl

abbrev Other : Clause → List Token → Type 0
Other = Or DropColumn (Or ModifyColumn OrderColumns)

abbrev other_first : List Mark
other_first = marked_word (codes "DROP") ∷ marked_word (codes "MODIFY") ∷ word (codes "ORDER")

other_clause_reads : Reads Other other_clause_at other_first altered_more false
unfolding other_clause_at
other_clause_reads = either_reads drop_column_reads (either_reads modify_column_reads order_columns_read refl) refl

abbrev clause_more : List Mark
clause_more = altered_more ++ added_more

clause_reads : Reads Clause_ clause_at (marked_word (codes "ADD") ∷ other_first) clause_more false
unfolding clause_at Clause_
clause_reads = either_reads (next_reads (word_reads (codes "ADD") refl) (λ _. added_column_reads) refl) other_clause_reads refl

pub clause_leaves_less : {B : Type 0} (view : B → Clause × List Token) (tokens : List Token) (r : Result B Stop) → Gives view r (clause_at tokens) → IfOk r (λ x. length (view x).1 < length tokens)
clause_leaves_less view tokens r given = leaves_less clause_reads view tokens r given

-- ---- ALTER TABLE: the token behind ADD tells a partition and a rollup from a column

abbrev comma : List Mark
comma = marked_sign sign.Comma ∷ []

abbrev From : Clause → List Clause → List Token → Type 0
From c = Then (Many (Then (Tok (a_sign sign.Comma)) (λ _. Clause_))) (λ cs. Is (c ∷ cs))

abbrev Rest : List ℕ → Clause → Stmt → List Token → Type 0
Rest table c = Then (From c) (λ cs. Is (stmt.Alter table cs))

abbrev rest_more : List Mark
rest_more = clause_more ++ comma

rest_reads : (table : List ℕ) (c : Clause) → Reads (Rest table c) (clauses_from_at table c) comma rest_more true
unfolding clauses_from_at more_of
rest_reads table c = next_reads (next_reads (many_reads (next_reads (sign_reads sign.Comma refl) (λ _. clause_reads) refl) refl) (λ cs. is_reads (c ∷ cs)) refl) (λ cs. is_reads (stmt.Alter table cs)) refl

abbrev PartBehind : List ℕ → Stmt → List Token → Type 0
PartBehind table = Then Part_ (λ p. Is (stmt.AddPartition table p))

abbrev RollupBehind : List ℕ → Stmt → List Token → Type 0
RollupBehind table = Then (Word (codes "ROLLUP")) (λ _. Then Name (λ n. Then Names (λ ns. Is (stmt.AddRollup table n ns))))

abbrev ColumnBehind : List ℕ → Stmt → List Token → Type 0
ColumnBehind table = Then AddedColumn (λ c. Rest table c)

abbrev Addition : List ℕ → Stmt → List Token → Type 0
Addition table = Or (PartBehind table) (Or (RollupBehind table) (ColumnBehind table))

abbrev Factored : List ℕ → Stmt → List Token → Type 0
Factored table = Or (Then (Word (codes "ADD")) (λ _. Addition table)) (Then Other (λ c. Rest table c))

add_part_reads : (table : List ℕ) → Reads (PartBehind table) (add_part_at table) (word (codes "PARTITION")) [] false
unfolding add_part_at
add_part_reads table = next_reads part_reads (λ p. is_reads (stmt.AddPartition table p)) refl

rollup_reads : (table : List ℕ) → Reads (RollupBehind table) (rollup_at table) (word (codes "ROLLUP")) [] false
unfolding rollup_at added_rollup_at Name
rollup_reads table = next_reads (word_reads (codes "ROLLUP") refl) (λ _. next_reads name_reads (λ n. next_reads names_read (λ ns. is_reads (stmt.AddRollup table n ns)) refl) refl) refl

add_column_reads : (table : List ℕ) → Reads (ColumnBehind table) (add_column_at table) (word (codes "COLUMN")) (rest_more ++ added_more) false
unfolding add_column_at
add_column_reads table = next_reads added_column_reads (λ c. rest_reads table c) refl

addition_reads : (table : List ℕ) → Reads (Addition table) (addition_at table) (marked_word (codes "PARTITION") ∷ marked_word (codes "ROLLUP") ∷ word (codes "COLUMN")) (rest_more ++ added_more) false
unfolding addition_at
addition_reads table = either_reads (add_part_reads table) (either_reads (rollup_reads table) (add_column_reads table) refl) refl

abbrev pub alter_more : List Mark
alter_more = (rest_more ++ altered_more) ++ (rest_more ++ added_more)

factored_reads : (table : List ℕ) → Reads (Factored table) (alteration_at table) (marked_word (codes "ADD") ∷ other_first) alter_more false
unfolding alteration_at
factored_reads table = either_reads (next_reads (word_reads (codes "ADD") refl) (λ _. addition_reads table) refl) (next_reads other_clause_reads (λ c. rest_reads table c) refl) refl

abbrev Alteration : List ℕ → Stmt → List Token → Type 0
Alteration table = Or (AddPart table) (Or (AddRollup table) (Clauses table))

-- a clause and the rest, regrouped as a list of clauses
regrouped : (table : List ℕ) (c : Clause) (x : Stmt) (ts front back : List Token) → ts ≡ front ++ back → Clause_ c front → Rest table c x back → Clauses table x ts
unfolding Clauses
regrouped table c x ts front back parts p r = record {
  value = r.value;
  front = front ++ r.front;
  back = r.back;
  parts = parts ∙ ap (λ (l : List Token). front ++ l) r.parts ∙ sym (append_assoc front r.front r.back);
  first = record { value = c; front = front; back = r.front; parts = refl; first = p; second = r.first };
  second = r.second;
}

to_alteration : (table : List ℕ) (x : Stmt) (ts : List Token) → Factored table x ts → Alteration table x ts
unfolding AddPart AddRollup Clause_
to_alteration table x ts (inl a) =
    elim a.second [
      | inl p ↦ inl (record { value = tt; front = a.front; back = a.back; parts = a.parts; first = a.first; second = p })
      | inr r ↦ elim r [
        | inl p ↦ inr (inl (record { value = tt; front = a.front; back = a.back; parts = a.parts; first = a.first; second = p }))
        | inr s ↦ inr (inr (regrouped table s.value x ts (a.front ++ s.front) s.back
            (a.parts ∙ ap (λ (l : List Token). a.front ++ l) s.parts ∙ sym (append_assoc a.front s.front s.back))
            (inl (record { value = tt; front = a.front; back = s.front; parts = refl; first = a.first; second = s.first }))
            s.second))
      ]
    ]
to_alteration table x ts (inr o) = inr (inr (regrouped table o.value x ts o.front o.back o.parts (inr o.first) o.second))

from_clauses : (table : List ℕ) (c : Clause) (x : Stmt) (ts front back : List Token) → ts ≡ front ++ back → Clause_ c front → Rest table c x back → Factored table x ts
unfolding Clause_
from_clauses table c x ts front back parts (inl a) r = inl (record {
  value = tt;
  front = a.front;
  back = a.back ++ back;
  parts = parts ∙ ap (λ (l : List Token). l ++ back) a.parts ∙ append_assoc a.front a.back back;
  first = a.first;
  second = inr (inr (record { value = c; front = a.back; back = back; parts = refl; first = a.second; second = r }));
})
from_clauses table c x ts front back parts (inr o) r = inr (record { value = c; front = front; back = back; parts = parts; first = o; second = r })

from_alteration : (table : List ℕ) (x : Stmt) (ts : List Token) → Alteration table x ts → Factored table x ts
unfolding AddPart AddRollup Clauses
from_alteration table x ts (inl p) = inl (record { value = tt; front = p.front; back = p.back; parts = p.parts; first = p.first; second = inl p.second })
from_alteration table x ts (inr (inl r)) = inl (record { value = tt; front = r.front; back = r.back; parts = r.parts; first = r.first; second = inr (inl r.second) })
from_alteration table x ts (inr (inr s)) =
    from_clauses table s.first.value x ts s.first.front (s.first.back ++ s.back)
    (s.parts ∙ ap (λ (l : List Token). l ++ s.back) s.first.parts ∙ append_assoc s.first.front s.first.back s.back)
    s.first.first
    (record { value = s.value; front = s.first.back; back = s.back; parts = refl; first = s.first.second; second = s.second })

alteration_reads : (table : List ℕ) → Reads (Alteration table) (alteration_at table) (marked_word (codes "ADD") ∷ other_first) alter_more false
alteration_reads table = reads_along (to_alteration table) (from_alteration table) (factored_reads table)

pub alter_reads : Reads Alter alter_at (word (codes "ALTER")) alter_more false
unfolding alter_at alter_table_at Alter Name
alter_reads = next_reads (word_reads (codes "ALTER") refl) (λ _. next_reads (word_reads (codes "TABLE") refl) (λ _. next_reads name_reads (λ table. alteration_reads table) refl) refl) refl

-- ---- CANCEL

pub kind_reads : Reads Kind kind_at (marked_word (codes "COLUMN") ∷ word (codes "ROLLUP")) [] false
unfolding kind_at Kind
kind_reads = either_reads (means_reads (codes "COLUMN") kind.Column refl) (means_reads (codes "ROLLUP") kind.Rollup refl) refl

pub cancel_reads : Reads Cancel cancel_at (word (codes "CANCEL")) [] false
unfolding cancel_at cancelled_at Cancel Name
cancel_reads = next_reads (word_reads (codes "CANCEL") refl) (λ _. next_reads (word_reads (codes "ALTER") refl) (λ _. next_reads (word_reads (codes "TABLE") refl) (λ _. next_reads kind_reads (λ k. next_reads (word_reads (codes "FROM") refl) (λ _. next_reads name_reads (λ table. is_reads _) refl) refl) refl) refl) refl) refl
