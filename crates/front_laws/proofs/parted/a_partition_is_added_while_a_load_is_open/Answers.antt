use Rattle.std.proofs.Common.{refl, inr}
use Rattle.std.specs.Fmt.{digits}
use Rattle.dl_values.specs.Read.{signed_number, strip_back, strip_front}
use Rattle.front_laws.proofs.parted.a_partition_is_added_while_a_load_is_open.Goals as goal

pub returns-clause-added : goal.returns-clause-added
unfolding digits signed_number strip_back strip_front
returns-clause-added c = (inr refl, λ x h. h)

pub returns-clause-meets : goal.returns-clause-meets
unfolding digits signed_number strip_back strip_front
returns-clause-meets c = (inr refl, λ x h. h)

pub returns-clause-taken : goal.returns-clause-taken
unfolding digits signed_number strip_back strip_front
returns-clause-taken c = λ built. (inr refl, λ x h. h)

pub returns-clause-untouched : goal.returns-clause-untouched
unfolding digits signed_number strip_back strip_front
returns-clause-untouched c = λ built is. rw is refl
