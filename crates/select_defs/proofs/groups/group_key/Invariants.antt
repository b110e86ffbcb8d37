use Rattle.std.proofs.Common.{◌≡◌, take}
use Rattle.select_defs.specs.Groups.{group_key}
use Rattle.select_defs.proofs.groups.group_key.Given as goal

abbrev pub invariant-loop-name : goal.invariant-loop-name
invariant-loop-name l = l.key ≡ group_key l.shape (take l.name-index l.group) l.row
