use Rattle.front_laws.proofs.Histories.{kept}
use Rattle.front_laws.proofs.Stories.{reopens}
use Rattle.front_laws.proofs.laws.what_is_told_is_what_an_opening_leaves.Goals as goal

pub returns-clause-story : goal.returns-clause-story
returns-clause-story c = λ H l. (reopens H l).0

pub returns-clause-agrees : goal.returns-clause-agrees
returns-clause-agrees c = λ H l. (reopens H l).1

pub returns-clause-told : goal.returns-clause-told
returns-clause-told c = λ H l. (kept H l).good.tidy.tells
