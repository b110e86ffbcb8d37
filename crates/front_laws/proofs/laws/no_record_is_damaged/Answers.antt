use Rattle.std.proofs.Common.{◌≡◌, ℕ, List, [], ◌∷◌, ◌⊎◌, inl, inr, ap, subst}
use Rattle.front_defs.specs.declared.event.Event.{Event}
use Rattle.front_defs.specs.declared.command.Command.{Command}
use Rattle.front_defs.specs.declared.command.Command.TheVariants as command
use Rattle.front_defs.specs.declared.reply.Reply.{Reply}
use Rattle.front_defs.specs.declared.reply.Reply.TheVariants as reply
use Rattle.front_defs.specs.declared.history.Entry.{Entry}
use Rattle.front_defs.specs.declared.history.Entry.TheVariants.{Told, Made}
use Rattle.front_defs.specs.Answer.{Answer}
use Rattle.front_defs.specs.History.{happened, opening}
use Rattle.front_defs.specs.Legal.{Legal}
use Rattle.front_laws.specs.Laws.{NeverBad}
use Rattle.front_laws.proofs.Replies.{BeginsBy, begins_by, is_rare}
use Rattle.front_laws.proofs.laws.no_record_is_damaged.Goals as goal

-- That a record is damaged answers nothing.
begins_never : (Es : List Event) (c : Command) (seq : ℕ) → BeginsBy Es c (reply.BadJournal seq) → ⊥
begins_never Es (command.Begin db table label two_phase at) seq (t, found, is) = cc
begins_never Es (command.CreateDb name if_not_exists) seq h = h
begins_never Es (command.CreateTable db table def if_not_exists) seq h = h
begins_never Es (command.Submit txn built at) seq h = h
begins_never Es (command.Publish at) seq h = h
begins_never Es (command.Abort db txn at) seq h = h
begins_never Es (command.Snapshot db table query) seq h = h
begins_never Es (command.DropTable db table if_exists at) seq h = h
begins_never Es (command.AddPartition db table part) seq h = h
begins_never Es (command.Commit db txn at) seq h = h
begins_never Es (command.Sweep at) seq h = h
begins_never Es (command.AddAlter db table def at) seq h = h
begins_never Es (command.CancelAlter db table kind at) seq h = h
begins_never Es (command.Advance at) seq h = h
begins_never Es (command.Give piece at) seq h = h
begins_never Es (command.Show db what) seq h = h
begins_never Es command.Take seq h = h
begins_never Es command.Restart seq h = h

never_bad : (Es : List Event) (c : Command) (r : Reply) (seq : ℕ) → Answer Es c r ⊎ (r ≡ reply.KeeperFault) → r ≡ reply.BadJournal seq → ⊥
never_bad Es c r seq (inl a) is = begins_never Es c seq (subst (BeginsBy Es c) is (begins_by Es c r a (ap is_rare is)))
never_bad Es c r seq (inr f) is = cc (f, is)

none_bad : (H : List Entry) → Legal H → NeverBad H
none_bad [] l = tt
none_bad (Told e ∷ H) l = none_bad H l.2
none_bad (Made c ∷ H) l = (λ seq is. never_bad (opening c.opened (happened H)) c.command c.reply seq l.0.answer is, none_bad H l.1)

pub returns : goal.returns
returns c = none_bad
