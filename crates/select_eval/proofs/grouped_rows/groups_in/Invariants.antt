-- The first rows that pass are in their groups.
use Rattle.std.proofs.Common.{◌≡◌, ◌+◌, [], length}
use Rattle.select_eval.specs.Grouping.{put_all}
use Rattle.select_eval.specs.Passing.{still_passing}
use Rattle.select_eval.proofs.grouped_rows.groups_in.Given as goal

abbrev pub invariant-rows : goal.invariant-rows
invariant-rows g l = record {
  so_far : put_all l.grouping l.all.entries (still_passing l.conditions l.merge) ≡ put_all l.grouping [] (still_passing l.conditions l.initial.merge);
  counted : l.steps + l.merge.unread ≡ l.initial.steps + l.initial.merge.unread;
}

abbrev pub decreases-rows : goal.decreases-rows
decreases-rows g l = length (still_passing l.conditions l.merge)
