use Rattle.std.proofs.Common.{◌≡◌, ◌∷◌, ◌∙◌, List, Option, Some, length, refl, ap, sym, subst}
use Rattle.dl_values.specs.declared.cell.Cell.{Cell}
use Rattle.schema_models.specs.Folds.{fold_of, key_of, merged_row}
use Rattle.schema_models.specs.ShapeView.{ShapeView}
use Rattle.schema_models.specs.declared.column_def.ColumnDef.{ColumnDef}
use Rattle.std.specs.declared.cmp.Ordering.TheVariants.{Equal}
use Rattle.dl_values.specs.Order.{row_cmp}
use Rattle.row_fold.specs.Prefix.{row_prefix}
use Rattle.merge_read.proofs.RunLemmas.{passed_less, run_ends, run_goes_on}
use Rattle.merge_read.specs.HeadOrder.{head_key}
use Rattle.merge_read.specs.Lists.{joined}
use Rattle.merge_read.specs.Merged.{row_of}
use Rattle.merge_read.specs.Rests.{IsPassed, IsTaken, StreamView}
use Rattle.merge_read.specs.Runs.{AreAbove, AreFrom, IsSamePassed}
use Rattle.merge_read.specs.declared.head.Head.{Head}
use Rattle.merge_read.proofs.runs.merge_same.Goals as goal

-- the first row is left behind, by the shape and its key
passed : (s : ShapeView) (k : List Cell) (old new : StreamView) (h : Head) → old.shape ≡ s → old.first ≡ Some h → row_cmp k (head_key h) ≡ Equal → IsTaken old old.first new → IsSamePassed s k old.rests h new.rests
passed s k old new h e f same t = record {
  passed = subst (λ (x : ShapeView). IsPassed x old.rests h new.rests) e (subst (λ (o : Option Head). IsTaken old o new) f t);
  same = same;
}

-- the key of the row so far is that of the first
key_so_far : (s t : ShapeView) (k made : List Cell) → t ≡ s → key_of s made ≡ k → key_of t made ≡ k
key_so_far s t k made e f = ap (λ (x : ShapeView). key_of x made) e ∙ f

pub first_of_key-requires : goal.first_of_key-requires
first_of_key-requires g c =
    let s = c.args.shape.now in
    let l = c.loop-head in
    let key = key_so_far s l.stream.shape (key_of s (row_of c.args.cells.now)) (row_of l.cells) l.invariant.shape l.invariant.run.key in
    record {
      begun = l.invariant.begun;
      merges = λ d. c.requires.merges (sym (ap (λ (x : ShapeView). x.model) l.invariant.shape) ∙ d);
      prefix = c.requires.prefix ∙ sym (ap row_prefix key);
    }

pub merge-requires-clause-row : goal.merge-requires-clause-row
merge-requires-clause-row g c =
    c.in-Some.ensures.whole ∙ ap (λ (x : ShapeView). length x.columns) c.loop-head.invariant.shape ∙ sym (ap (λ (cs : List ColumnDef). length cs) c.columns.ensures)

pub loop-head-preserved : goal.loop-head-preserved
loop-head-preserved g c =
    let s = c.args.shape.now in
    let l = c.loop-head in
    let h = c.in-Some.head.now in
    let k = key_of s (row_of c.args.cells.now) in
    let key = key_so_far s l.stream.shape k (row_of l.cells) l.invariant.shape l.invariant.run.key in
    let p = passed s k l.stream c.advance.new.self h l.invariant.shape c.in-Some.ensures.first (ap (λ (x : List Cell). row_cmp x (head_key h)) (sym key) ∙ c.in-Some.ensures.same) c.advance.ensures.taken in
    let fold = fold_of s (row_of c.args.cells.now ∷ joined c.args.stream.now.rests) in
    record {
      shape = c.advance.ensures.shape ∙ l.invariant.shape;
      begun = c.advance.ensures.begun;
      run = run_goes_on s k (row_of l.cells) (row_of c.merge.new.cells) l.stream.rests c.advance.new.self.rests h fold c.requires.merges l.invariant.run p
          (c.merge.ensures ∙ ap (λ (cs : List ColumnDef). merged_row cs (row_of l.cells) h.row) c.columns.ensures);
      counted = c.advance.ensures.counted ∙ l.invariant.counted;
    }

pub loop-head-smaller : goal.loop-head-smaller
loop-head-smaller g c =
    let s = c.args.shape.now in
    let l = c.loop-head in
    let h = c.in-Some.head.now in
    let k = key_of s (row_of c.args.cells.now) in
    let key = key_so_far s l.stream.shape k (row_of l.cells) l.invariant.shape l.invariant.run.key in
    let p = passed s k l.stream c.advance.new.self h l.invariant.shape c.in-Some.ensures.first (ap (λ (x : List Cell). row_cmp x (head_key h)) (sym key) ∙ c.in-Some.ensures.same) c.advance.ensures.taken in
    passed_less s l.stream.rests c.advance.new.self.rests h p.passed

pub loop-head-init : goal.loop-head-init
loop-head-init g c = record {
  shape = c.requires.shape;
  begun = c.requires.begun;
  run = record { key = refl; from = c.requires.from; merged = refl };
  counted = refl;
}

pub returns-clause-merged : goal.returns-clause-merged
returns-clause-merged g c =
    let s = c.args.shape.now in
    let l = c.loop-head in
    let k = key_of s (row_of c.args.cells.now) in
    let key = key_so_far s l.stream.shape k (row_of l.cells) l.invariant.shape l.invariant.run.key in
    run_ends s k (row_of l.cells) l.stream.rests (fold_of s (row_of c.args.cells.now ∷ joined c.args.stream.now.rests)) c.requires.merges l.invariant.run
    (subst (λ (x : ShapeView). AreFrom x k l.stream.rests → AreAbove x k l.stream.rests) l.invariant.shape
    (subst (λ (y : List Cell). AreFrom l.stream.shape y l.stream.rests → AreAbove l.stream.shape y l.stream.rests) key c.in_default.ensures.other))
