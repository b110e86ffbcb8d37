use Rattle.std.proofs.Common.{◌≡◌, ◌++◌, drop}
use Rattle.std.specs.List.{filter}
use Rattle.select_defs.specs.Filters.{passes}
use Rattle.select_defs.proofs.filters.selected.Given as goal

abbrev pub invariant-loop-place : goal.invariant-loop-place
invariant-loop-place l = l.out ++ filter (passes l.base l.shape l.query) (drop l.place l.rows) ≡ filter (passes l.base l.shape l.query) l.rows
