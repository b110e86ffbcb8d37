use Rattle.std.proofs.Common.{◌≡◌, ◌++◌, drop}
use Rattle.row_fold.proofs.runs.end.Given as goal

abbrev pub invariant-loop-i : goal.invariant-loop-i
invariant-loop-i l = l.room ++ drop l.i l.made.items ≡ l.fn.made.items
