use Rattle.load_server.specs.Scripts.{after_asked_abort}
use Rattle.load_server.proofs.Going.{answered_asks_now}
use Rattle.load_server.proofs.ending.abort_load.Goals as goal

pub returns : goal.returns
returns g c = λ seen own s. answered_asks_now _ _ seen own _ after_asked_abort c.turn-reply.result _ c.turn-reply.ensures.turned s tt c.aborted.ensures
