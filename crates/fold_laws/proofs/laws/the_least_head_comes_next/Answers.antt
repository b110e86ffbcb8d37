use Rattle.fold_laws.proofs.Lists.{next_starts, next_takes, next_ends, next_sorted}
use Rattle.fold_laws.proofs.laws.the_least_head_comes_next.Goals as goal

pub returns-clause-starts : goal.returns-clause-starts
returns-clause-starts g c = λ cmp key op m rests i x l h e a. next_starts m.order key m.merges m.apart rests i x l h e a

pub returns-clause-takes : goal.returns-clause-takes
returns-clause-takes g c = λ cmp key op m made rests i x l h e t a. next_takes m.order key m.merges m.apart made rests i x l h e t a

pub returns-clause-ends : goal.returns-clause-ends
returns-clause-ends g c = λ cmp key op m made rests a. next_ends m.order key m.merges m.apart made rests a

pub returns-clause-keeps : goal.returns-clause-keeps
returns-clause-keeps g c = λ cmp key o s rests i x l h e a f. next_sorted o key s rests i x l h e a f
