use Rattle.std.proofs.Common.{◌≡◌, drop}
use Rattle.std.specs.List.{list_any}
use Rattle.table_defs.specs.Defined.{is_bad}
use Rattle.table_defs.proofs.definition.has_bad.Given as goal

abbrev pub invariant-loop-property : goal.invariant-loop-property
invariant-loop-property l = list_any is_bad (drop l.property-index l.properties) ≡ list_any is_bad l.properties
