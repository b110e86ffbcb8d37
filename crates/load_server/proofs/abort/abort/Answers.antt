use Rattle.std.proofs.Common.{refl}
use Rattle.load_server.specs.Scripts.{after_abort}
use Rattle.load_server.proofs.Going.{answered_asks_now}
use Rattle.load_server.proofs.Answering.{abort_other}
use Rattle.load_server.proofs.abort.abort.Goals as goal

pub returns-in-KeeperFault : goal.returns-in-KeeperFault
returns-in-KeeperFault g c = λ response h seen own s.
    answered_asks_now _ _ seen own _ (after_abort response) c.turn.result _ c.turn.ensures.turned s tt (rw c.in-KeeperFault.is (refl, refl))

pub returns-in-NoMemory : goal.returns-in-NoMemory
returns-in-NoMemory g c = λ response h seen own s.
    answered_asks_now _ _ seen own _ (after_abort response) c.turn.result _ c.turn.ensures.turned s tt (rw c.in-NoMemory.is (refl, refl))

pub returns-in_default : goal.returns-in_default
returns-in_default g c = λ response h seen own s.
    answered_asks_now _ _ seen own _ (after_abort response) c.turn.result _ c.turn.ensures.turned s tt
    (rw (abort_other response c.turn.result c.in_default.not-KeeperFault c.in_default.not-NoMemory) h)
