use Rattle.std.proofs.Common.{◌≡◌, map, take}
use Rattle.select_defs.specs.Groups.{group_cell}
use Rattle.select_defs.proofs.groups.group_row.Given as goal

abbrev pub invariant-loop-item : goal.invariant-loop-item
invariant-loop-item l = l.row ≡ map (group_cell l.shape l.group l.key l.own) (take l.item-index l.list)
