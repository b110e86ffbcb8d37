use Rattle.std.proofs.Common.{◌≡◌}
use Rattle.select_eval.proofs.grouping.rows_of.Given as goal

abbrev pub invariant-loop-group : goal.invariant-loop-group
invariant-loop-group l = record {
  can : (goal.iterator-loop-group).can_next l.group-iterator;
  ends : (goal.iterator-loop-group).is_finite l.group-iterator;
  same : l.rows.items ≡ l.yielded;
}
