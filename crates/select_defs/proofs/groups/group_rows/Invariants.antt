use Rattle.std.proofs.Common.{◌≡◌, map, take}
use Rattle.select_defs.specs.Groups.{group_row}
use Rattle.select_defs.proofs.groups.group_rows.Given as goal

abbrev pub invariant-loop-key : goal.invariant-loop-key
invariant-loop-key l = l.all.items ≡ map (group_row l.shape l.group l.list l.rows) (take l.key-index l.key-items)
