use Rattle.std.proofs.Common.{◌≡◌, drop, map}
use Rattle.schema_models.specs.Faults.{first_of}
use Rattle.select_defs.specs.Refusals.{unknown}
use Rattle.select_defs.proofs.refusals.unknown_in_names.Given as goal

abbrev pub invariant-loop-name : goal.invariant-loop-name
invariant-loop-name l = first_of (map (unknown l.base) (drop l.name-index l.list)) ≡ first_of (map (unknown l.base) l.list)
