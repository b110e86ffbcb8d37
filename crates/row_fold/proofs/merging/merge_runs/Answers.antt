use Rattle.std.proofs.Common.{◌+◌, List, ◌∷◌, ◌++◌, drop, sym, ap, ◌∙◌, subst, arith}
use Rattle.dl_values.specs.Order.{row_cmp}
use Rattle.dl_values.specs.declared.cell.Cell.{Cell}
use Rattle.fold_laws.specs.Fold.{Ascends}
use Rattle.row_fold.specs.Sorted.{rows_of}
use Rattle.schema_models.specs.Folds.{fold_of, key_of}
use Rattle.row_fold.proofs.RunLemmas.{none_fold, rows_cut_at, runs_done}
use Rattle.row_fold.proofs.merging.merge_runs.Goals as goal

pub returns-then-is_empty : goal.returns-then-is_empty
returns-then-is_empty c = c.new-out.ensures ∙ none_fold c.args.rule.now.shape.now c.args.sorted.now (sym c.is_empty.ensures ∙ c.if-is_empty.true)

pub loop-i-preserved : goal.loop-i-preserved
loop-i-preserved c =
    let s = c.args.rule.now.shape.now in
    let i = c.loop-i.i in
    let rest = rows_of (drop (i + 1) c.args.sorted.now) in
    let made = c.loop-i.present in
    let cut = rows_cut_at c.args.sorted.now i c.index-sorted-i.result (omega arith) c.index-sorted-i.is in
    let a = subst (λ (l : List (List Cell)). Ascends row_cmp (key_of s) (made ∷ l)) cut c.loop-i.invariant.ascends in
    record {
      empty = c.in_ok-take_next.ensures.emptied;
      key = c.in_ok-take_next.ensures.key;
      so_far = c.in_ok-take_next.ensures.same rest a ∙ sym (ap (λ l. c.loop-i.out ++ fold_of s (made ∷ l)) cut) ∙ c.loop-i.invariant.so_far;
      ascends = c.in_ok-take_next.ensures.ascends rest a;
    }

pub returns : goal.returns
returns c = runs_done c.args.rule.now.shape.now c.requires.merges c.loop-i.out c.end.new.out c.loop-i.present c.args.sorted.now c.loop-i.i c.in_ok-end.ensures.added (omega arith) c.loop-i.invariant.so_far
