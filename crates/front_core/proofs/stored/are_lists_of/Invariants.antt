-- The last lists were made for the shape.
use Rattle.std.proofs.Common.{◌≤◌, length, drop}
use Rattle.std.specs.List.{AllByRecursion}
use Rattle.rowsets.specs.RowsetView.{IsListOf}
use Rattle.front_core.proofs.stored.are_lists_of.Given as goal

abbrev pub invariant-loop-place : goal.invariant-loop-place
invariant-loop-place l = record {
  within : l.place ≤ length l.lists;
  rest : AllByRecursion (λ x. IsListOf l.shape x.value) (drop l.place l.lists);
}

abbrev pub decreases-loop-place : goal.decreases-loop-place
decreases-loop-place l = l.place
