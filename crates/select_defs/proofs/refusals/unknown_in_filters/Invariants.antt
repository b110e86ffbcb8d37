use Rattle.std.proofs.Common.{◌≡◌, drop, map}
use Rattle.schema_models.specs.Faults.{first_of}
use Rattle.sql_text.specs.declared.query.Filter.{Filter}
use Rattle.select_defs.specs.Refusals.{unknown}
use Rattle.select_defs.proofs.refusals.unknown_in_filters.Given as goal

abbrev pub invariant-loop-filter : goal.invariant-loop-filter
invariant-loop-filter l = first_of (map (λ (f : Filter). unknown l.base f.column) (drop l.filter-index l.list)) ≡ first_of (map (λ (f : Filter). unknown l.base f.column) l.list)
