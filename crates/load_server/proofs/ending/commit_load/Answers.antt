use Rattle.std.proofs.Common.{ap, ◌∷◌}
use Rattle.front_defs.specs.declared.history.Entry.TheVariants.{Made}
use Rattle.load_server.specs.Scripts.{after_commit}
use Rattle.load_server.proofs.Answering.{commit_other}
use Rattle.load_server.proofs.Going.{answered_as, answered_asks, answered_asks_now}
use Rattle.load_server.proofs.ending.commit_load.Goals as goal

pub returns-in-Committed : goal.returns-in-Committed
returns-in-Committed g c = λ seen own s.
    answered_asks _ _ _ seen own _ (after_commit c.args.at) c.turn.result _ c.turn.ensures.turned s tt
    (λ z call e st. answered_as _ z (Made call ∷ own) _ _ _ (ap (after_commit c.args.at) c.in-Committed.is) (c.publish_committed.ensures z (Made call ∷ own) st))

pub returns-in_default : goal.returns-in_default
returns-in_default g c = λ seen own s.
    answered_asks_now _ _ seen own _ (after_commit c.args.at) c.turn.result _ c.turn.ensures.turned s tt
    (rw (commit_other c.args.at c.turn.result c.in_default.not-Committed) c.refused_by.ensures)
