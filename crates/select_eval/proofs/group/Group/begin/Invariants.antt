use Rattle.std.proofs.Common.{◌≡◌, map, take}
use Rattle.select_eval.specs.Outputs.{fresh}
use Rattle.select_eval.proofs.group.Group.begin.Given as goal

abbrev pub invariant-loop-output : goal.invariant-loop-output
invariant-loop-output l = l.cells.items ≡ map (fresh l.key) (take l.output-index l.list)
