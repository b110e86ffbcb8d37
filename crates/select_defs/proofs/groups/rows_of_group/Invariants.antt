use Rattle.std.proofs.Common.{◌≡◌, ◌++◌, drop}
use Rattle.std.specs.List.{filter}
use Rattle.dl_values.specs.Order.{row_cmp}
use Rattle.fold_laws.specs.Fold.{has_key}
use Rattle.select_defs.specs.Groups.{group_key}
use Rattle.select_defs.proofs.groups.rows_of_group.Given as goal

abbrev pub invariant-loop-place : goal.invariant-loop-place
invariant-loop-place l = l.out ++ filter (has_key row_cmp (group_key l.shape l.group) l.key) (drop l.place l.rows) ≡ filter (has_key row_cmp (group_key l.shape l.group) l.key) l.rows
