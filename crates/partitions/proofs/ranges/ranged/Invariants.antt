-- The partitions so far, with those that are left, are all.
use Rattle.std.proofs.Common.{◌≡◌, [], drop}
use Rattle.partitions.specs.Ranges as ranges
use Rattle.partitions.proofs.ranges.ranged.Given as goal

abbrev pub invariant-loop-part : goal.invariant-loop-part
invariant-loop-part l = ranges.ranged l.all (drop l.part-index l.parts) ≡ ranges.ranged [] l.parts
