-- What a turn leaves: the seen list grew by entries of others and then this call, and the own list by this call. Where the command is quiet after what was seen then, the turn visited no stored row.
use Rattle.std.specs.Prelude.{◌≡◌, ℕ, false, List, ◌∷◌, ◌++◌}
use Rattle.front_defs.specs.declared.command.Command.{Command}
use Rattle.front_defs.specs.declared.reply.Reply.{Reply}
use Rattle.front_defs.specs.declared.history.Call.{Call}
use Rattle.front_defs.specs.declared.history.Entry.{Entry}
use Rattle.front_defs.specs.declared.history.Entry.TheVariants.{Made}
use Rattle.front_defs.specs.History.{broken_of, restarts}

-- a command that is answered without a look at a stored row: nothing has to be opened first, and it opens nothing itself
pub record IsQuiet (H : List Entry) (c : Command) : Type 0 where
  pub whole : broken_of H ≡ false
  pub stays : restarts c ≡ false

pub record Turned (stands : List Entry → List Entry → Type 0) (steps steps_now : ℕ) (seen own : List Entry) (command : Command) (reply : Reply) : Type 0 where
  pub call : Call
  pub command_is : call.command ≡ command
  pub reply_is : call.reply ≡ reply
  pub others : List Entry
  pub now : stands (Made call ∷ (others ++ seen)) (Made call ∷ own)
  pub quiet : IsQuiet (others ++ seen) command → steps_now ≡ steps
