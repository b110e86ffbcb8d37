-- The last rows are not below the key.
use Rattle.std.proofs.Common.{◌≤◌, length, drop}
use Rattle.dl_values.specs.Order.{row_cmp}
use Rattle.fold_laws.specs.Fold.{From}
use Rattle.schema_models.specs.Folds.{key_of}
use Rattle.stored_tests.proofs.readings.sorted.are_from.Given as goal

abbrev pub invariant-loop-place : goal.invariant-loop-place
invariant-loop-place l = record {
  behind : l.start ≤ l.place;
  within : l.place ≤ length l.rows;
  rest : From row_cmp (key_of l.shape) l.key (drop l.place l.rows);
}

abbrev pub decreases-loop-place : goal.decreases-loop-place
decreases-loop-place l = l.place
