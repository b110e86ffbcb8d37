use Rattle.std.proofs.Common.{refl}
use Rattle.fold_laws.specs.Fold.{folded}
use Rattle.std.specs.Fmt.{digits}
use Rattle.dl_values.specs.Read.{signed_number, strip_back, strip_front}
use Rattle.front_laws.proofs.parted.a_load_over_two_partitions.Goals as goal

pub returns-clause-outside : goal.returns-clause-outside
unfolding digits signed_number strip_back strip_front
returns-clause-outside c = refl

pub returns-clause-first : goal.returns-clause-first
unfolding digits signed_number strip_back strip_front
returns-clause-first c = λ built is. rw is refl

pub returns-clause-second : goal.returns-clause-second
unfolding digits signed_number strip_back strip_front
returns-clause-second c = λ built is. rw is refl

pub returns-clause-lists : goal.returns-clause-lists
unfolding folded digits signed_number strip_back strip_front
returns-clause-lists c = λ built is. rw is refl

pub returns-clause-untouched : goal.returns-clause-untouched
unfolding digits signed_number strip_back strip_front
returns-clause-untouched c = λ built is. rw is refl
