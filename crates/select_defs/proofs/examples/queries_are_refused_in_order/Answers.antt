use Rattle.std.proofs.Common.{refl}
use Rattle.dl_values.specs.Read.{signed_number, strip_back, strip_front}
use Rattle.std.specs.Fmt.{digits}
use Rattle.fold_laws.specs.Fold.{folded}
use Rattle.select_defs.specs.Eval.{Eval}
use Rattle.select_defs.proofs.examples.queries_are_refused_in_order.Goals as goal

pub returns-clause-in_the_list : goal.returns-clause-in_the_list
unfolding Eval folded digits strip_front strip_back signed_number
returns-clause-in_the_list c = refl

pub returns-clause-in_a_test : goal.returns-clause-in_a_test
unfolding Eval folded digits strip_front strip_back signed_number
returns-clause-in_a_test c = refl

pub returns-clause-in_an_order : goal.returns-clause-in_an_order
unfolding Eval folded digits strip_front strip_back signed_number
returns-clause-in_an_order c = refl

pub returns-clause-by_position : goal.returns-clause-by_position
unfolding Eval folded digits strip_front strip_back signed_number
returns-clause-by_position c = refl

pub returns-clause-before_the_first : goal.returns-clause-before_the_first
unfolding Eval folded digits strip_front strip_back signed_number
returns-clause-before_the_first c = refl

pub returns-clause-compare : goal.returns-clause-compare
unfolding Eval folded digits strip_front strip_back signed_number
returns-clause-compare c = refl

pub returns-clause-sum : goal.returns-clause-sum
unfolding Eval folded digits strip_front strip_back signed_number
returns-clause-sum c = refl

pub returns-clause-date : goal.returns-clause-date
unfolding Eval folded digits strip_front strip_back signed_number
returns-clause-date c = refl

pub returns-clause-grouped : goal.returns-clause-grouped
unfolding Eval folded digits strip_front strip_back signed_number
returns-clause-grouped c = refl

pub returns-clause-star : goal.returns-clause-star
unfolding Eval folded digits strip_front strip_back signed_number
returns-clause-star c = refl
