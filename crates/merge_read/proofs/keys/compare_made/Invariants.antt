-- The first cells are the same.
use Rattle.std.proofs.Common.{◌≡◌, drop, take}
use Rattle.dl_values.specs.Order.{row_cmp}
use Rattle.merge_read.specs.Merged.{row_of}
use Rattle.merge_read.proofs.keys.compare_made.Given as goal

abbrev pub invariant-loop-i : goal.invariant-loop-i
invariant-loop-i l = row_cmp (drop l.i (take l.a_width (row_of l.a))) (drop l.i (take l.b_width l.b)) ≡ row_cmp (take l.a_width (row_of l.a)) (take l.b_width l.b)
