use Rattle.std.proofs.Common.{refl, inr}
use Rattle.front_laws.proofs.parted.a_label_is_used_again_after_a_sweep.Goals as goal

pub returns-clause-held : goal.returns-clause-held
returns-clause-held c = λ built. (inr refl, λ x h. h)

pub returns-clause-free : goal.returns-clause-free
returns-clause-free c = λ built. (inr refl, λ x h. h)
