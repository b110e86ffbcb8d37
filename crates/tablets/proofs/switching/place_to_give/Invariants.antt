-- None of the first is to take a place, so the others decide.
use Rattle.std.proofs.Common.{◌≡◌, drop}
use Rattle.std.specs.List.{list_any}
use Rattle.tablets.specs.Shadows as shadows
use Rattle.tablets.proofs.switching.place_to_give.Given as goal

abbrev pub invariant-loop-place : goal.invariant-loop-place
invariant-loop-place l = list_any (shadows.gives_way l.job) (drop l.place l.indexes) ≡ list_any (shadows.gives_way l.job) l.indexes
