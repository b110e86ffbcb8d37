use Rattle.std.proofs.Common.{◌≡◌, ◌≤◌, length, drop}
use Rattle.dl_values.specs.Order.{row_cmp}
use Rattle.fold_laws.specs.Fold.{distinct}
use Rattle.select_defs.specs.Groups.{group_key}
use Rattle.select_defs.proofs.groups.group_keys.Given as goal

abbrev pub invariant-loop-place : goal.invariant-loop-place
invariant-loop-place l = record {
  within : l.place ≤ length l.rows;
  so_far : l.keys.items ≡ distinct row_cmp (group_key l.shape l.group) (drop l.place l.rows);
}

abbrev pub decreases-loop-place : goal.decreases-loop-place
decreases-loop-place l = l.place
