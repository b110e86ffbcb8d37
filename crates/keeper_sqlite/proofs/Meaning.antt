-- What the statements that make the table and insert a record do.
use Rattle.std.proofs.Common.{◌≡◌, ◌⊎◌, inl, inr, ℕ, suc, zero, ◌+◌, pos, negsuc, ℤ, ◌<◌, List, [], ◌∷◌, ◌++◌, length, map, codes, slice_get, Bool, true, false, cond, Some, None, Ok, Err, Result, IfOk, OnOk, refl, sym, ap, subst, ◌∙◌, arith}
use Rattle.std.specs.List.Sorted.{IsPermutation}
use Rattle.std.proofs.lemmas.Bool.Decides.{nat_tests}
use Rattle.sqlite_value.proofs.OrderLemmas.{value_cmp-Int}
use Rattle.std.proofs.lemmas.Int.{ints}
use Rattle.std.specs.declared.cmp.Ordering.TheVariants.{Less}
use Rattle.sqlite.specs.declared.types.Value.{Value}
use Rattle.sqlite.specs.declared.types.Value.TheVariants.{Null, Int, Text, Blob}
use Rattle.sqlite.specs.Order.{Row, value_cmp}
use Rattle.sqlite.specs.Term.{Term, lit, col}
use Rattle.sqlite.specs.Ops.{unary}
use Rattle.sqlite.specs.Table.{Table}
use Rattle.sqlite.specs.Schema.{Schema}
use Rattle.sqlite.specs.Kind.TheVariants.{Integer}
use Rattle.sqlite.specs.Source.TheVariants.{Values}
use Rattle.sqlite.specs.Command.TheVariants.{Insert, Select, CreateTable, Nothing}
use Rattle.sqlite.specs.Compile.{table_defined_by}
use Rattle.sqlite.specs.Edit.{Edit, edit_of, edited}
use Rattle.sqlite.specs.Cast.{cast}
use Rattle.sqlite.specs.Rowids.TheVariants.{Chosen}
use Rattle.sqlite.specs.Query.{Query, inner, end}
use Rattle.sqlite.specs.Change.{created, next_tree}
use Rattle.sqlite.specs.Does.{Tally, Does, lacks_sequence}
use Rattle.sqlite.specs.Rows.{Written}
use Rattle.sqlite.specs.Tree.{Trees, put_row}
use Rattle.sqlite_tied.specs.Compute.{everything}
use Rattle.sqlite.specs.declared.error.Error.{Error}
use Rattle.sqlite.specs.Listing.{understood, reads_listing}
use Rattle.sqlite.specs.Effect.{Database}
use Rattle.sqlite.specs.State.{State, mode_of, Writes, Executes, QueriesRow}
use Rattle.sqlite.proofs.Callers.{IsPlain, command_of, statement_of, runs_as, one_step}
use Rattle.keeper_sqlite.specs.Table.{journal, journal_schema, no_schema, row_of, rows_from, Holds}

abbrev pub create_text : List ℕ
create_text = codes "CREATE TABLE IF NOT EXISTS journal (seq INTEGER PRIMARY KEY, rec BLOB NOT NULL)"

abbrev pub insert_text : List ℕ
insert_text = codes "INSERT INTO journal (seq, rec) VALUES (?1, ?2)"

abbrev terms : List Term
terms = col 0 0 ∷ lit Null ∷ col 0 1 ∷ []

create_is : (command_of (understood no_schema create_text) ≡ CreateTable) × (statement_of create_text (understood no_schema create_text) ≡ create_text)
unfolding understood everything
create_is = (refl, refl)

defined_is : table_defined_by create_text ≡ Ok journal
unfolding understood everything
defined_is = refl

insert_is : command_of (understood journal_schema insert_text) ≡ Insert 0 (Values terms 3)
unfolding understood everything
insert_is = refl

create_plain : IsPlain (understood no_schema create_text)
unfolding understood everything
create_plain = (refl, refl)

insert_plain : IsPlain (understood journal_schema insert_text)
unfolding understood everything
insert_plain = (refl, refl)

-- a part that gave a value did not stop on the way
went : {B E R : Type 0} {b : B} {Stops : E → Type 0} → ((stop : E) × Stops stop × (Ok b ≡ Err stop)) ⊎ R → R
went (inl stopped) = absurd (let e = stopped.2 in cc)
went (inr on) = on

same_value : {B E : Type 0} {a b : B} → ◌≡◌ {A = Result B E} (Ok a) (Ok b) → a ≡ b
same_value e = cc

pub creates : (old new : State) (r : Result ℕ Error) → old.now.schema ≡ no_schema → Executes create_text [] old new r → OnOk r (Holds new [])
creates old new (Err e) has h = tt
creates old new (Ok count) has h =
    let w = subst (λ t. Writes old new None CreateTable t [] count) create_is.1 (runs_as create_text [] old new no_schema has CreateTable create_is.0 create_plain count h) in
    let all = went w.changed in
    let first = went all.1 in
    let made = first.1 in
    let both : Ok made.table ≡ Ok journal = sym made.defined ∙ defined_is in
    let same : made.table ≡ journal = cc in
    let schema : first.0.schema ≡ journal_schema = made.is ∙ ap (λ s. created s made.table) has ∙ ap (created no_schema) same in
    let plain : lacks_sequence first.0.schema ≡ false = ap lacks_sequence schema in
    let now : new.now ≡ first.0 = ap (λ (p : Tally × Database). p.1) (same_value all.2) ∙ same_value (rw plain at first.2) in
    (ap (λ (d : Database). d.schema) now ∙ schema, ap (λ (d : Database). d.trees 0) now ∙ subst (λ s. first.0.trees (next_tree s) ≡ []) has made.empty)

either : (b : Bool) (x : Value) → cond b x x ≡ x
either true x = refl
either false x = refl

cast_int : (n : ℤ) → cast Integer (Int n) ≡ Int n
unfolding unary
cast_int n = either _ (Int n)

cast_null : cast Integer Null ≡ Null
unfolding unary
cast_null = either _ Null

lower_id : (m n : ℕ) → m < n → value_cmp (Int (pos m)) (Int (pos n)) ≡ Less
lower_id m n h = value_cmp-Int (pos m) (pos n) ∙ grind (arith, ints, nat_tests)

-- a row above all others goes last
puts_last : (n : ℕ) (recs : List (List ℕ)) (bytes : List ℕ) → put_row (row_of (n + length recs) bytes) (rows_from n recs) ≡ rows_from n (recs ++ bytes ∷ [])
puts_last n [] bytes = ap (λ k. row_of k bytes ∷ []) (omega arith)
puts_last n (b ∷ bs) bytes =
    let below : value_cmp (Int (pos n)) (Int (pos (n + suc (length bs)))) ≡ Less = lower_id n (n + suc (length bs)) (omega arith) in
    let more : n + suc (length bs) ≡ suc n + length bs = omega arith in
    rw below (ap (λ rows. row_of n b ∷ rows) (ap (λ k. put_row (row_of k bytes) (rows_from (suc n) bs)) more ∙ puts_last (suc n) bs bytes))

pub adds : (old new : State) (seq : ℤ) (bytes : List ℕ) (recs : List (List ℕ)) (r : Result ℕ Error) → old.now.schema ≡ journal_schema → old.now.trees 0 ≡ rows_from 1 recs → seq ≡ pos (1 + length recs)
    → Executes insert_text (Int seq ∷ Blob bytes ∷ []) old new r
    → OnOk r (Holds new (recs ++ bytes ∷ []))
adds old new seq bytes recs (Err e) has rows last h = tt
adds old new seq bytes recs (Ok count) has rows last h =
    let params = Int seq ∷ Blob bytes ∷ [] in
    let db = old.now.trees in
    let command = Insert 0 (Values terms 3) in
    let w = runs_as insert_text params old new journal_schema has command insert_is insert_plain count h in
    let text = statement_of insert_text (understood journal_schema insert_text) in
    let done = went (subst (λ s. Does old.step_limit (mode_of old) params (record old.now { schema = s }) text None command (Ok (w.tally, new.now))) has w.changed) in
    let now = ap (λ (p : Tally × Database). p.1) (same_value (went (went done.2).2).2) in
    let given = went done.1 in
    let written = went (went given.2).2 in
    let counted = went written.2 in
    let trees : done.0.trees ≡ written.0 = ap (λ (it : Written). it.trees) (same_value counted.2) ∙ same_value counted.1 in
    let put = (one_step journal_schema _ db written.0 (edit_of db journal [] Chosen 0 given.0) refl written.1).rows in
    let edit : edited db (edit_of db journal [] Chosen 0 given.0) ≡ rows_from 1 (recs ++ bytes ∷ []) = ap (λ all. edited db (edit_of db journal [] Chosen 0 all)) given.1.1 ∙ rw (cast_int seq, cast_null, rows, last) (puts_last 1 recs bytes) in
    (ap (λ (d : Database). d.schema) now, ap (λ (d : Database). d.trees 0) now ∙ ap (λ (t : Trees). t 0) trees ∙ put ∙ edit)
