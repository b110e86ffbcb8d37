use Rattle.std.proofs.Common.{◌≡◌, map, take}
use Rattle.select_eval.specs.Outputs.{output_of}
use Rattle.select_eval.proofs.output.outputs_of.Given as goal

abbrev pub invariant-loop-item : goal.invariant-loop-item
invariant-loop-item l = l.all.items ≡ map (output_of l.index l.group) (take l.item-index l.list)
