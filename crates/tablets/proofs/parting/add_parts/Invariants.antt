-- The first have a partition more, the others stand as before.
use Rattle.std.proofs.Common.{◌≡◌, ◌++◌, drop, map, take}
use Rattle.tablets.specs.SetView.{with_part}
use Rattle.tablets.proofs.parting.add_parts.Given as goal

abbrev pub invariant-loop-index : goal.invariant-loop-index
invariant-loop-index l = l.indexes ≡ map (with_part l.buckets) (take l.index-index l.fn.indexes) ++ drop l.index-index l.fn.indexes
