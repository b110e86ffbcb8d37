-- The rows that are still to come grow fewer.
use Rattle.std.proofs.Common.{length}
use Rattle.stored_tests.proofs.readings.one_by_one.Given as goal

abbrev pub decreases-loop-text : goal.decreases-loop-text
decreases-loop-text g l = length l.merge.left
