use Rattle.load_server.specs.Scripts.{after_snapshot}
use Rattle.load_server.proofs.Going.{answered_asks_now}
use Rattle.load_server.proofs.select.snapshot.Goals as goal

pub returns : goal.returns
returns g c = λ seen own s. answered_asks_now _ _ seen own _ after_snapshot c.turn-reply.result _ c.turn-reply.ensures.turned s tt c.selected.ensures

pub selected-requires : goal.selected-requires
selected-requires g c = c.turn-reply.ensures.gives
