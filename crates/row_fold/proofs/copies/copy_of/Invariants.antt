use Rattle.std.proofs.Common.{◌≡◌, ◌++◌, drop}
use Rattle.row_fold.proofs.copies.copy_of.Given as goal

abbrev pub invariant-loop-place : goal.invariant-loop-place
invariant-loop-place l = l.out ++ drop l.place l.rows ≡ l.rows
