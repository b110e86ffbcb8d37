-- The first pairs fit, so the others decide.
use Rattle.std.proofs.Common.{◌≡◌, drop}
use Rattle.tablets.specs.Compactions as compactions
use Rattle.tablets.proofs.named.stand_first.Given as goal

abbrev pub invariant-loop-i : goal.invariant-loop-i
invariant-loop-i l = compactions.stand_first (drop l.i l.versions) (drop l.i l.lists) ≡ compactions.stand_first l.versions l.lists
