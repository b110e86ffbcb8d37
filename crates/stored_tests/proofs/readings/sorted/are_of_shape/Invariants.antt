-- The last rows are of the shape.
use Rattle.std.proofs.Common.{◌≤◌, length, drop}
use Rattle.std.specs.List.{AllByRecursion}
use Rattle.schema_models.specs.RowRules.{IsOfShape}
use Rattle.stored_tests.proofs.readings.sorted.are_of_shape.Given as goal

abbrev pub invariant-loop-place : goal.invariant-loop-place
invariant-loop-place l = record {
  within : l.place ≤ length l.rows;
  rest : AllByRecursion (IsOfShape l.shape) (drop l.place l.rows);
}

abbrev pub decreases-loop-place : goal.decreases-loop-place
decreases-loop-place l = l.place
