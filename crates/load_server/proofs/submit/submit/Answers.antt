use Rattle.std.proofs.Common.{refl, ap, ◌∷◌}
use Rattle.front_defs.specs.declared.history.Entry.TheVariants.{Made}
use Rattle.front_defs.specs.declared.reply.Reply.TheVariants as reply
use Rattle.reply_texts.specs.Texts.{refusal_text}
use Rattle.load_server.specs.Reports.{failed}
use Rattle.load_server.specs.Scripts.{after_submit}
use Rattle.load_server.proofs.Going.{answered_as, answered_asks, answered_asks_now}
use Rattle.load_server.proofs.Answering.{submit_other}
use Rattle.load_server.proofs.submit.submit.Goals as goal

pub turn-requires : goal.turn-requires
turn-requires g c = λ b. c.requires

pub returns-in-Submitted : goal.returns-in-Submitted
returns-in-Submitted g c = λ seen own s may.
    answered_asks _ _ _ seen own _ (after_submit c.args.load c.args.txn c.args.counts.filtered c.args.counts.total) c.turn.result _ c.turn.ensures.turned s may
    (λ z call e st. answered_as _ z (Made call ∷ own) _ _ _ (ap (after_submit c.args.load c.args.txn c.args.counts.filtered c.args.counts.total) c.in-Submitted.is) (c.publish_from.ensures z (Made call ∷ own) st))

pub returns-in-Expired : goal.returns-in-Expired
returns-in-Expired g c = λ seen own s may.
    answered_asks _ _ _ seen own _ (after_submit c.args.load c.args.txn c.args.counts.filtered c.args.counts.total) c.turn.result _ c.turn.ensures.turned s may
    (λ z call e st. answered_as _ z (Made call ∷ own) _ _ _ (ap (after_submit c.args.load c.args.txn c.args.counts.filtered c.args.counts.total) c.in-Expired.is)
    (c.abort.ensures (failed c.args.load.sent c.args.txn (refusal_text (reply.Expired c.in-Expired.since)) c.args.counts.filtered c.args.counts.total) c.failed_by-answer.ensures z (Made call ∷ own) st))

pub returns-in-NoMemory : goal.returns-in-NoMemory
returns-in-NoMemory g c = λ seen own s may.
    answered_asks _ _ _ seen own _ (after_submit c.args.load c.args.txn c.args.counts.filtered c.args.counts.total) c.turn.result _ c.turn.ensures.turned s may
    (λ z call e st. answered_as _ z (Made call ∷ own) _ _ _ (ap (after_submit c.args.load c.args.txn c.args.counts.filtered c.args.counts.total) c.in-NoMemory.is) (c.give_up.ensures z (Made call ∷ own) st))

pub returns-in-KeeperFault : goal.returns-in-KeeperFault
returns-in-KeeperFault g c = λ seen own s may.
    answered_asks_now _ _ seen own _ (after_submit c.args.load c.args.txn c.args.counts.filtered c.args.counts.total) c.turn.result _ c.turn.ensures.turned s may (rw c.in-KeeperFault.is (refl, refl))

pub returns-in_default : goal.returns-in_default
returns-in_default g c = λ seen own s may.
    answered_asks_now _ _ seen own _ (after_submit c.args.load c.args.txn c.args.counts.filtered c.args.counts.total) c.turn.result _ c.turn.ensures.turned s may
    (rw (submit_other c.args.load c.args.txn c.args.counts.filtered c.args.counts.total c.turn.result c.in_default.not-Submitted c.in_default.not-Expired c.in_default.not-NoMemory c.in_default.not-KeeperFault) c.failed_by.ensures)
