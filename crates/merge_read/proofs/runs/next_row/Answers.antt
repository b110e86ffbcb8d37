use Rattle.std.proofs.Common.{◌≡◌, ◌⊎◌, inl, inr, ◌∙◌, [], List, Option, Some, ℕ, length, ap, sym, subst}
use Rattle.std.proofs.lemmas.List.{length-map}
use Rattle.std.specs.List.{AllByRecursion}
use Rattle.dl_values.specs.declared.cell.Cell.{Cell}
use Rattle.schema_models.specs.Folds.{fold_of}
use Rattle.schema_models.specs.ShapeView.{ShapeView}
use Rattle.schema_models.specs.declared.model.Model.{Model}
use Rattle.schema_models.specs.declared.model.Model.TheVariants as model
use Rattle.row_fold.specs.Prefix.{row_prefix}
use Rattle.merge_read.proofs.KeyLemmas.{number_taken}
use Rattle.merge_read.proofs.RunLemmas.{nothing_left, nothing_unread, row_kept, run_begins}
use Rattle.merge_read.specs.Lists.{joined}
use Rattle.merge_read.specs.Merged.{cell_of, row_of}
use Rattle.merge_read.specs.Rests.{IsPassed, IsTaken, RowList, StreamView, begun_of, unread_in}
use Rattle.merge_read.specs.Runs.{AreFrom}
use Rattle.merge_read.specs.declared.head.Head.{Head}
use Rattle.merge_read.proofs.runs.next_row.Goals as goal

nothing : (s : ShapeView) (old begun : StreamView) → begun.rests ≡ old.rests → AllByRecursion (λ (r : RowList). r ≡ []) begun.rests → (fold_of s (joined old.rests) ≡ []) × (fold_of s (joined begun.rests) ≡ []) × (unread_in begun ≡ 0)
nothing s old begun e a =
    let b : AllByRecursion (λ (r : RowList). r ≡ []) old.rests = subst (λ (z : List RowList). AllByRecursion (λ (r : RowList). r ≡ []) z) e a in
    (nothing_left s old.rests b, nothing_left s begun.rests a, nothing_unread (begun_of begun.begun (length begun.rests)) begun.rests a)

by_shape : (s : ShapeView) (old begun new : StreamView) (h : Head) → begun.shape ≡ old.shape → old.shape ≡ s → begun.rests ≡ old.rests → Some h ≡ begun.first → IsTaken begun begun.first new → IsPassed s old.rests h new.rests
by_shape s old begun new h e f r first t =
    subst (λ (x : ShapeView). IsPassed x old.rests h new.rests) (e ∙ f) (subst (λ (z : List RowList). IsPassed begun.shape z h new.rests) r (subst (λ (o : Option Head). IsTaken begun o new) (sym first) t))

whole : (s : ShapeView) (old begun : StreamView) (n : ℕ) → begun.shape ≡ old.shape → old.shape ≡ s → n ≡ length begun.shape.columns → n ≡ length s.columns
whole s old begun n e f w = w ∙ ap (λ (x : ShapeView). length x.columns) (e ∙ f)

pub returns-in_default-clause-made : goal.returns-in_default-clause-made
returns-in_default-clause-made g c = nothing c.args.shape.now c.args.stream.now c.begin.new.self c.begin.ensures.rests c.in_default.ensures.none

pub begin-requires-2 : goal.begin-requires-2
begin-requires-2 g c =
    c.requires.width ∙ sym (whole c.args.shape.now c.args.stream.now c.begin.new.self (length c.in-Some.head.now.row) c.begin.ensures.shape c.requires.shape c.in-Some.ensures.whole)

no_duplicate : (m s : Model) → m ≡ s → (m ≡ model.Unique) ⊎ (m ≡ model.Aggregate) → s ≡ model.Duplicate → ⊥
no_duplicate m s e h d = elim h [ inl u ↦ cc | inr a ↦ cc ]

pub merge_same-requires : goal.merge_same-requires
merge_same-requires g c =
    let s = c.args.shape.now in
    let h = c.in-Some.head.now in
    let n = no_duplicate c.model.result s.model c.model.ensures c.in-Unique.is in
    let p = by_shape s c.args.stream.now c.begin.new.self c.advance.new.self h c.begin.ensures.shape c.requires.shape c.begin.ensures.rests c.in-Some.ensures.first c.advance.ensures.taken in
    let r = run_begins s (row_of c.begin-2.new.cells) c.args.stream.now.rests c.advance.new.self.rests h n p c.begin-2.ensures in
    record {
      merges = n;
      shape = c.advance.ensures.shape ∙ c.begin.ensures.shape ∙ c.requires.shape;
      begun = c.advance.ensures.begun;
      width = sym (length-map c.begin-2.new.cells cell_of) ∙ ap (λ (x : List Cell). length x) c.begin-2.ensures ∙ whole s c.args.stream.now c.begin.new.self (length h.row) c.begin.ensures.shape c.requires.shape c.in-Some.ensures.whole;
      prefix = h.ok ∙ sym (number_taken h.width h.row h.has_key) ∙ ap row_prefix (sym r.key);
      from = subst (λ (k : List Cell). AreFrom s k c.advance.new.self.rests) (sym r.key) r.from;
    }

pub returns-in-Duplicate-clause-made : goal.returns-in-Duplicate-clause-made
returns-in-Duplicate-clause-made g c =
    let s = c.args.shape.now in
    let h = c.in-Some.head.now in
    let p = by_shape s c.args.stream.now c.begin.new.self c.advance.new.self h c.begin.ensures.shape c.requires.shape c.begin.ensures.rests c.in-Some.ensures.first c.advance.ensures.taken in
    row_kept s (row_of c.begin-2.new.cells) c.args.stream.now.rests c.advance.new.self.rests h (sym c.model.ensures ∙ c.in-Duplicate.is) p c.begin-2.ensures

pub returns-in-Unique-clause-made : goal.returns-in-Unique-clause-made
returns-in-Unique-clause-made g c =
    let s = c.args.shape.now in
    let h = c.in-Some.head.now in
    let n = no_duplicate c.model.result s.model c.model.ensures c.in-Unique.is in
    let p = by_shape s c.args.stream.now c.begin.new.self c.advance.new.self h c.begin.ensures.shape c.requires.shape c.begin.ensures.rests c.in-Some.ensures.first c.advance.ensures.taken in
    let r = run_begins s (row_of c.begin-2.new.cells) c.args.stream.now.rests c.advance.new.self.rests h n p c.begin-2.ensures in
    sym r.merged ∙ c.merge_same.ensures.merged
