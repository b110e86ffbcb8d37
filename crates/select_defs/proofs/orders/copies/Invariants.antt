use Rattle.std.proofs.Common.{◌≡◌, take}
use Rattle.select_defs.proofs.orders.copies.Given as goal

abbrev pub invariant-loop-row : goal.invariant-loop-row
invariant-loop-row l = l.out ≡ take l.row-index l.rows
