use Rattle.std.proofs.Common.{◌≡◌, drop}
use Rattle.std.specs.List.{list_all}
use Rattle.select_defs.specs.Filters.{passes_filter}
use Rattle.select_defs.proofs.filters.passes_all.Given as goal

abbrev pub invariant-loop-filter : goal.invariant-loop-filter
invariant-loop-filter l = list_all (passes_filter l.base l.shape l.row) (drop l.filter-index l.list) ≡ list_all (passes_filter l.base l.shape l.row) l.list
