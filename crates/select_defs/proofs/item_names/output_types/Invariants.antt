use Rattle.std.proofs.Common.{◌≡◌, map, take}
use Rattle.select_defs.specs.Items.{output_type}
use Rattle.select_defs.proofs.item_names.output_types.Given as goal

abbrev pub invariant-loop-item : goal.invariant-loop-item
invariant-loop-item l = l.all.items ≡ map (output_type l.base) (take l.item-index l.list)
