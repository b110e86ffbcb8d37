use Rattle.std.proofs.Common.{◌≡◌, map, take}
use Rattle.select_defs.specs.Groups.{plain_cell}
use Rattle.select_defs.proofs.groups.plain_row.Given as goal

abbrev pub invariant-loop-item : goal.invariant-loop-item
invariant-loop-item l = l.out ≡ map (plain_cell l.shape l.row) (take l.item-index l.list)
