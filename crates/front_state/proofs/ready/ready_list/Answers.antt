use Rattle.front_state.proofs.Room.{roomier}
use Rattle.front_state.proofs.ready.ready_list.Goals as goal

pub returns-in_err-reserve-clause-room : goal.returns-in_err-reserve-clause-room
returns-in_err-reserve-clause-room c = roomier c.args.set.now c.reserve.new.self c.reserve.ensures.rest

pub returns-then-not-is_past-clause-room : goal.returns-then-not-is_past-clause-room
returns-then-not-is_past-clause-room c = roomier c.args.set.now c.reserve.new.self c.reserve.ensures.rest

pub returns-in_err-rows-clause-room : goal.returns-in_err-rows-clause-room
returns-in_err-rows-clause-room c = roomier c.args.set.now c.reserve.new.self c.reserve.ensures.rest

pub returns-clause-room : goal.returns-clause-room
returns-clause-room c = roomier c.args.set.now c.reserve.new.self c.reserve.ensures.rest
