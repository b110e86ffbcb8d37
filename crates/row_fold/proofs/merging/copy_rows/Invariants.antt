use Rattle.std.proofs.Common.{◌≡◌, ◌++◌, drop}
use Rattle.row_fold.specs.Sorted.{rows_of}
use Rattle.row_fold.proofs.merging.copy_rows.Given as goal

abbrev pub invariant-loop-i : goal.invariant-loop-i
invariant-loop-i l = l.out ++ rows_of (drop l.i l.sorted) ≡ rows_of l.sorted
