use Rattle.std.proofs.Common.{◌≡◌}
use Rattle.journal_core.proofs.Reading.{SoFar}
use Rattle.journal_core.proofs.replaying.replay.Given as goal

abbrev pub invariant-loop-place : goal.invariant-loop-place
invariant-loop-place g l = (g.K.Keeper.faults l.keeper ≡ g.K.Keeper.faults l.fn.keeper) × SoFar (g.K.Keeper.records l.fn.keeper) (g.K.Keeper.records l.keeper) l.found l.place
