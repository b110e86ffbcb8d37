use Rattle.std.proofs.Common.{◌≡◌, map, take}
use Rattle.select_eval.specs.Conditions.{condition_of}
use Rattle.select_eval.proofs.conditions.conditions_of.Given as goal

abbrev pub invariant-loop-filter : goal.invariant-loop-filter
invariant-loop-filter l = l.all.items ≡ map (condition_of l.base l.index) (take l.filter-index l.filters)
