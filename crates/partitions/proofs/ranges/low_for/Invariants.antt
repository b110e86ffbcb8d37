-- The low end among the ranges that were looked at.
use Rattle.std.proofs.Common.{◌≡◌, ◌≤◌, drop, length, option_copied}
use Rattle.partitions.specs.Ranges as ranges
use Rattle.partitions.proofs.ranges.low_for.Given as goal

abbrev pub invariant-loop-left : goal.invariant-loop-left
invariant-loop-left l = (l.left ≤ length l.parts) × (option_copied l.low ≡ ranges.low_for l.high (drop l.left l.parts))

abbrev pub decreases-loop-left : goal.decreases-loop-left
decreases-loop-left l = l.left
