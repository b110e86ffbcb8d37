use Rattle.std.proofs.Common.{◌≡◌, drop}
use Rattle.record_keeper.specs.Memory.{planned_in}
use Rattle.record_keeper.proofs.memory_keeper.planned.Given as goal

abbrev pub invariant-loop-one : goal.invariant-loop-one
invariant-loop-one l = planned_in (drop l.one-index l.fails) l.call ≡ planned_in l.fails l.call
