use Rattle.std.proofs.Common.{◌≡◌}
use Rattle.row_fold.proofs.lists.gathered.Given as goal

abbrev pub invariant-loop-row : goal.invariant-loop-row
invariant-loop-row l = record {
  can : (goal.iterator-loop-row).can_next l.row-iterator;
  ends : (goal.iterator-loop-row).is_finite l.row-iterator;
  same : l.out ≡ l.yielded;
}
