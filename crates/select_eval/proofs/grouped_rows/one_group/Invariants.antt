-- The first rows that pass are in the group.
use Rattle.std.proofs.Common.{◌≡◌, ◌+◌, [], length}
use Rattle.select_eval.specs.Outputs.{begun, grown_by}
use Rattle.select_eval.specs.Passing.{still_passing}
use Rattle.select_eval.proofs.grouped_rows.one_group.Given as goal

abbrev pub invariant-rows : goal.invariant-rows
invariant-rows g l = record {
  so_far : grown_by l.outputs l.group (still_passing l.conditions l.merge) ≡ grown_by l.outputs (begun l.outputs []) (still_passing l.conditions l.initial.merge);
  counted : l.steps + l.merge.unread ≡ l.initial.steps + l.initial.merge.unread;
}

abbrev pub decreases-rows : goal.decreases-rows
decreases-rows g l = length (still_passing l.conditions l.merge)
