-- The versions of the first lists are raised.
use Rattle.std.proofs.Common.{take}
use Rattle.front_state.specs.Ready.{AreRaised}
use Rattle.front_state.proofs.storing.raise.Given as goal

abbrev pub invariant-loop-list : goal.invariant-loop-list
invariant-loop-list l = AreRaised (take l.list-index l.lists) l.initial.versions l.versions
