-- The lists so far are ready.
use Rattle.std.proofs.Common.{take}
use Rattle.front_state.specs.Ready.{AreReady, HasRoom}
use Rattle.front_state.proofs.ready.ready_lists.Given as goal

abbrev pub invariant-loop-rows : goal.invariant-loop-rows
invariant-loop-rows l = record {
  room : HasRoom l.initial.set l.set;
  ready : AreReady l.versions l.set (take l.rows-index l.sets) l.all.items;
}
