use Rattle.std.proofs.Common.{◌≡◌, map, take}
use Rattle.select_eval.specs.Outputs.{plain_place}
use Rattle.select_eval.proofs.output_rows.plain_places.Given as goal

abbrev pub invariant-loop-item : goal.invariant-loop-item
invariant-loop-item l = l.all.items ≡ map (plain_place l.index) (take l.item-index l.list)
