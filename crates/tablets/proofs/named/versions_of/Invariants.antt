-- The pairs of the first rowsets.
use Rattle.std.proofs.Common.{◌≡◌, take}
use Rattle.tablets.specs.Compactions as compactions
use Rattle.tablets.proofs.named.versions_of.Given as goal

abbrev pub invariant-loop-list : goal.invariant-loop-list
invariant-loop-list l = l.all ≡ compactions.versions_of (take l.list-index l.lists)
