use Rattle.std.proofs.Common.{◌≡◌, drop, map}
use Rattle.schema_models.specs.Faults.{first_of}
use Rattle.select_defs.specs.Refusals.{ungrouped}
use Rattle.select_defs.proofs.refusals.ungrouped_in.Given as goal

abbrev pub invariant-loop-item : goal.invariant-loop-item
invariant-loop-item l = first_of (map (ungrouped l.group) (drop l.item-index l.list)) ≡ first_of (map (ungrouped l.group) l.list)
