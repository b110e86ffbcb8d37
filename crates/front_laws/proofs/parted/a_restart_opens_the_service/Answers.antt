use Rattle.std.proofs.Common.{refl, inr, ap}
use Rattle.front_defs.specs.History.{restarts}
use Rattle.front_laws.proofs.Worked.{restarted_legal}
use Rattle.front_laws.proofs.parted.a_restart_opens_the_service.Goals as goal

pub returns-clause-done : goal.returns-clause-done
returns-clause-done c = (inr refl, λ x h. h)

pub returns-clause-opened : goal.returns-clause-opened
returns-clause-opened c = λ x H m is done. m.restarted (ap restarts is) done

pub returns-clause-legal : goal.returns-clause-legal
returns-clause-legal c = restarted_legal

pub returns-clause-lost : goal.returns-clause-lost
returns-clause-lost c = λ built. (inr refl, λ x h. h)

pub returns-clause-free : goal.returns-clause-free
returns-clause-free c = (inr refl, λ x h. h)
