use Rattle.std.proofs.Common.{◌≡◌, map, take}
use Rattle.select_eval.specs.Places.{place_of}
use Rattle.select_eval.proofs.grouping.places_of.Given as goal

abbrev pub invariant-loop-name : goal.invariant-loop-name
invariant-loop-name l = l.all.items ≡ map (place_of l.index) (take l.name-index l.group)
