use Rattle.std.proofs.Common.{List, subst, sym, take, ◌+◌}
use Rattle.front_state.specs.Ready.{AreReady}
use Rattle.front_state.specs.declared.ready.ReadyList.{ReadyList}
use Rattle.front_state.proofs.Room.{one_ready, room_twice}
use Rattle.front_state.proofs.ready.ready_lists.Goals as goal

pub loop-rows-preserved : goal.loop-rows-preserved
loop-rows-preserved c = record {
  room = room_twice c.args.set.now c.loop-rows.set c.ready_list.new.set c.loop-rows.invariant.room c.ready_list.ensures.room;
  ready = subst (λ (ls : List ReadyList). AreReady c.args.versions.now c.ready_list.new.set (take (c.loop-rows.rows-index + 1) c.args.sets.now) ls) (sym c.in_ok-push.ensures.items)
      (one_ready c.args.versions.now c.loop-rows.set c.ready_list.new.set c.args.sets.now c.loop-rows.rows-index c.rows-item.result c.loop-rows.all.items c.in_ok-list.list c.loop-rows-test.true c.rows-item.is c.ready_list.ensures.room c.in_ok-list.ensures.ready c.loop-rows.invariant.ready);
}
