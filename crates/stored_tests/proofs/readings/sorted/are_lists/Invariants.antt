-- The last lists are sorted.
use Rattle.std.proofs.Common.{◌≤◌, length, drop, map}
use Rattle.merge_read.specs.Lists.{AreSortedLists}
use Rattle.stored_tests.proofs.readings.sorted.are_lists.Given as goal

abbrev pub invariant-loop-place : goal.invariant-loop-place
invariant-loop-place l = record {
  within : l.place ≤ length l.lists;
  rest : AreSortedLists l.shape (map (λ c. c.rows) (drop l.place l.lists));
}

abbrev pub decreases-loop-place : goal.decreases-loop-place
decreases-loop-place l = l.place
