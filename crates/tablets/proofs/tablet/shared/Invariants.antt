-- The first rowsets are shared.
use Rattle.std.proofs.Common.{◌≡◌, take, map}
use Rattle.tablets.proofs.tablet.shared.Given as goal

abbrev pub invariant-loop-list : goal.invariant-loop-list
invariant-loop-list l = map (λ x. x.value) l.all ≡ map (λ x. x.rowset) (take l.list-index l.lists)
