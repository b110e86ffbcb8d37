use Rattle.std.proofs.Common.{◌≡◌, ◌++◌, take, drop}
use Rattle.std.specs.BTreeSet.{insert_key}
use Rattle.dl_values.specs.Order.{row_cmp}
use Rattle.select_defs.proofs.groups.add_key.Given as goal

abbrev pub invariant-loop-i : goal.invariant-loop-i
invariant-loop-i l = take l.i l.keys.items ++ insert_key row_cmp (drop l.i l.keys.items) l.key ≡ insert_key row_cmp l.fn.keys.items l.key
