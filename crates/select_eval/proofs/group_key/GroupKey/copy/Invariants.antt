use Rattle.std.proofs.Common.{◌≡◌, take}
use Rattle.select_eval.proofs.group_key.GroupKey.copy.Given as goal

abbrev pub invariant-loop-cell : goal.invariant-loop-cell
invariant-loop-cell l = l.cells.items ≡ take l.cell-index l.self
