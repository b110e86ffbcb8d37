use Rattle.std.proofs.Common.{◌≡◌, ◌++◌, take}
use Rattle.dl_values.proofs.rows.copy_onto.Given as goal

abbrev pub invariant-loop-cell : goal.invariant-loop-cell
invariant-loop-cell l = l.list.items ≡ l.fn.list.items ++ take l.cell-index l.cells
