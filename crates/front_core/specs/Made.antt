-- The entry of a step: a call without opening and without faults of a keeper.
use Rattle.std.specs.Prelude.{ℕ, false, List}
use Rattle.front_defs.specs.declared.command.Command.{Command}
use Rattle.front_defs.specs.declared.reply.Reply.{Reply}
use Rattle.front_defs.specs.declared.history.Call.{Call}

-- the call of a seat, with that command and its reply
abbrev pub made : List ℕ → Command → Reply → Call
made seat command reply = record { seat = seat; command = command; reply = reply; opened = false; rose = false; took = false; faults_in = 0; faults_out = 0 }
