-- The first are cut, the others stand as before.
use Rattle.std.proofs.Common.{◌≡◌, ◌++◌, drop, map, take}
use Rattle.tablets.specs.Parting.{cut_to}
use Rattle.tablets.proofs.parting.cut_parts.Given as goal

abbrev pub invariant-loop-index : goal.invariant-loop-index
invariant-loop-index l = l.indexes ≡ map (cut_to l.parts) (take l.index-index l.fn.indexes) ++ drop l.index-index l.fn.indexes
