-- The first partitions stand by ascending ranges.
use Rattle.std.proofs.Common.{take}
use Rattle.partitions.specs.Search as search
use Rattle.partitions.proofs.order.order_of.Given as goal

abbrev pub invariant-loop-i : goal.invariant-loop-i
invariant-loop-i l = search.IsOrder (take l.i l.parts) l.order.items
