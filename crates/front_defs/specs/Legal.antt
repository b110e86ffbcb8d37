-- Which histories are legal: told records come first and follow each other, and each call has the answer that what happened before gives it.
use Rattle.std.specs.Prelude.{◌≡◌, ℕ, ◌+◌, ◌≤◌, Bool, true, false, not, ◌&&◌, List, [], ◌∷◌, IfSome, min, nat_le, ◌⊎◌}
use Rattle.front_defs.specs.declared.event.Event.{Event}
use Rattle.front_defs.specs.declared.command.Command.{Command}
use Rattle.front_defs.specs.declared.reply.Reply.TheVariants as reply
use Rattle.front_defs.specs.declared.history.Call.{Call}
use Rattle.front_defs.specs.declared.history.Entry.{Entry}
use Rattle.front_defs.specs.declared.history.Entry.TheVariants.{Told, Made}
use Rattle.front_defs.specs.Answer.{Answer}
use Rattle.front_defs.specs.History.{would, journal, opening, happened, broken_of, last_faults, restarts}
use Rattle.front_defs.specs.Journal.{Follows}
use Rattle.front_defs.specs.May.{May}

-- a count rose: it is greater than before, or stands at its end
abbrev pub rises : ℕ → ℕ → Bool
rises before now = nat_le (min (before + 1) 18446744073709551615) now

abbrev pub has_any : List Event → Bool
has_any [] = false
has_any (e ∷ Es) = true

-- what the command would make happen now leaves a record, whatever the answer
abbrev pub Appends : List Event → Command → Type 0
Appends Es c = has_any (journal (would Es c)) ≡ true

-- The marks of a call.
pub record IsMarked (c : Call) (H : List Entry) : Type 0 where
  -- `rose` says that the keeper's count of faults rose in the step
  pub rose : c.rose ≡ rises c.faults_in c.faults_out
  -- the keeper is said to have failed only where it did, in a command that appends a record or in an opening
  pub fault : c.reply ≡ reply.KeeperFault → (c.rose ≡ true) × ((broken_of H ≡ true) ⊎ (restarts c.command ≡ true) ⊎ Appends (opening c.opened (happened H)) c.command)
  -- a record that reached the keeper all the same is one that the command appends
  pub took : c.took ≡ true → (c.reply ≡ reply.KeeperFault) × ((broken_of H && not c.opened) ≡ false) × Appends (opening c.opened (happened H)) c.command
  -- a step opens only where the history was broken or where it is asked to, and does so before it answers
  pub opens_only : c.opened ≡ true → (broken_of H ≡ true) ⊎ (restarts c.command ≡ true)
  pub opens : broken_of H ≡ true → (c.opened ≡ true) ⊎ (c.reply ≡ reply.KeeperFault) ⊎ (c.reply ≡ reply.NoMemory)
  -- and always where it was asked to and says that it is done
  pub restarted : restarts c.command ≡ true → c.reply ≡ reply.Done → c.opened ≡ true
  -- the count never falls, and nobody else uses the keeper
  pub later : c.faults_in ≤ c.faults_out
  pub counts : IfSome (last_faults H) (λ n. c.faults_in ≡ n)

-- a call that may stand after a history
pub record IsLegal (c : Call) (H : List Entry) : Type 0 where
  pub answer : Answer (opening c.opened (happened H)) c.command c.reply ⊎ (c.reply ≡ reply.KeeperFault)
  pub may : May H c.command
  pub marks : IsMarked c H

-- no call stands in it
abbrev pub IsAllTold : List Entry → Type 0
IsAllTold [] = Unit {0}
IsAllTold (Told e ∷ H) = IsAllTold H
IsAllTold (Made c ∷ H) = ⊥

abbrev pub Legal : List Entry → Type 0
Legal [] = Unit {0}
Legal (Told e ∷ H) = Follows (happened H) e × IsAllTold H × Legal H
Legal (Made c ∷ H) = IsLegal c H × Legal H
