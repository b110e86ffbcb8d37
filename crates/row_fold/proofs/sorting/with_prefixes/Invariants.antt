use Rattle.std.proofs.Common.{◌≡◌, ◌++◌, drop}
use Rattle.row_fold.specs.Sorted.{rows_of}
use Rattle.row_fold.proofs.sorting.with_prefixes.Given as goal

abbrev pub invariant-loop-place : goal.invariant-loop-place
invariant-loop-place l = rows_of l.keyed.items ++ drop l.place l.rows ≡ l.rows
