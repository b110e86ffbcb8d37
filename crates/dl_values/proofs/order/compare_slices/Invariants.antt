use Rattle.std.proofs.Common.{◌≡◌, drop}
use Rattle.dl_values.specs.Order.{row_cmp}
use Rattle.dl_values.proofs.order.compare_slices.Given as goal

abbrev pub invariant-loop-i : goal.invariant-loop-i
invariant-loop-i l = row_cmp (drop l.i l.a) (drop l.i l.b) ≡ row_cmp l.a l.b
