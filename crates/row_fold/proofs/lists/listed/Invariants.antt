use Rattle.std.proofs.Common.{◌≡◌, ◌++◌, drop}
use Rattle.row_fold.proofs.lists.listed.Given as goal

abbrev pub invariant-loop-place : goal.invariant-loop-place
invariant-loop-place l = l.out.items ++ drop l.place l.rows ≡ l.rows
