use Rattle.std.proofs.Common.{◌≡◌, drop, map}
use Rattle.schema_models.specs.Faults.{first_of}
use Rattle.select_defs.specs.Refusals.{unknown_item}
use Rattle.select_defs.proofs.refusals.unknown_in_items.Given as goal

abbrev pub invariant-loop-item : goal.invariant-loop-item
invariant-loop-item l = first_of (map (unknown_item l.base) (drop l.item-index l.list)) ≡ first_of (map (unknown_item l.base) l.list)
