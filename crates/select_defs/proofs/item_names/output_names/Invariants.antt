use Rattle.std.proofs.Common.{◌≡◌, map, take}
use Rattle.select_defs.specs.Items.{output_name}
use Rattle.select_defs.proofs.item_names.output_names.Given as goal

abbrev pub invariant-loop-item : goal.invariant-loop-item
invariant-loop-item l = l.all.items ≡ map output_name (take l.item-index l.list)
