use Rattle.std.proofs.Common.{refl}
use Rattle.front_defs.specs.Script.{Ends}
use Rattle.load_server.specs.Responses.{out_of_memory}
use Rattle.load_server.proofs.Going.{answered_asks_now}
use Rattle.load_server.proofs.abort.give_up.Goals as goal

pub returns : goal.returns
returns g c = λ seen own s.
    answered_asks_now _ _ seen own _ (λ r. Ends out_of_memory) c.turn-reply.result _ c.turn-reply.ensures.turned s tt (refl, refl)
