use Rattle.std.proofs.Common.{◌≡◌, map, take}
use Rattle.select_defs.specs.Groups.{plain_row}
use Rattle.select_defs.proofs.groups.plain_rows.Given as goal

abbrev pub invariant-loop-place : goal.invariant-loop-place
invariant-loop-place l = l.all.items ≡ map (plain_row l.shape l.list) (take l.place l.rows)
