-- None of the first rows stands in the block and passes.
use Rattle.std.proofs.Common.{◌≡◌, false, length}
use Rattle.stored_tests.specs.InBlocks.{may_below}
use Rattle.stored_tests.proofs.readings.counted.CountedZones.block_may_match.Given as goal

abbrev pub invariant-loop-place : goal.invariant-loop-place
invariant-loop-place l = record {
  none : may_below l.place l.self.rows l.block l.test ≡ false;
  all : l.place-end ≡ length l.self.rows;
}
