use Rattle.std.proofs.Common.{◌≡◌}
use Rattle.select_eval.proofs.group.Group.into_row.Given as goal

abbrev pub invariant-loop-cell : goal.invariant-loop-cell
invariant-loop-cell l = l.row ≡ l.yielded
