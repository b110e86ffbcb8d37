use Rattle.std.proofs.Common.{◌-◌, ◌≤◌, length, drop}
use Rattle.schema_models.specs.Folds.{key_of}
use Rattle.row_fold.proofs.OrderedRows.{InOrder}
use Rattle.row_fold.proofs.ascending.is_folded.Given as goal

abbrev pub invariant-loop-place : goal.invariant-loop-place
invariant-loop-place l = record {
  within : l.place ≤ length l.rows;
  in_order : InOrder l.rule.shape.now.model (key_of l.rule.shape.now) (drop (l.place - 1) l.rows);
}

abbrev pub decreases-loop-place : goal.decreases-loop-place
decreases-loop-place l = l.place
