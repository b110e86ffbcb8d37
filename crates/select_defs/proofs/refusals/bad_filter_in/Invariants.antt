use Rattle.std.proofs.Common.{◌≡◌, drop, map}
use Rattle.schema_models.specs.Faults.{first_of}
use Rattle.select_defs.specs.Refusals.{bad_filter}
use Rattle.select_defs.proofs.refusals.bad_filter_in.Given as goal

abbrev pub invariant-loop-filter : goal.invariant-loop-filter
invariant-loop-filter l = first_of (map (bad_filter l.base) (drop l.filter-index l.list)) ≡ first_of (map (bad_filter l.base) l.list)
