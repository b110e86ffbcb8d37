use Rattle.fold_laws.proofs.Merges.{gathers}
use Rattle.fold_laws.proofs.Streams.{gathers_all}
use Rattle.fold_laws.proofs.laws.merges_gather.Goals as goal

pub returns-clause-keeping : goal.returns-clause-keeping
returns-clause-keeping g c = λ cmp key o s. record { order = o; apart = s; gathers = gathers_all o key }

pub returns-clause-merging : goal.returns-clause-merging
returns-clause-merging g c = λ cmp key op m. record { order = m.order; apart = m.apart; gathers = gathers m.order m.merges }
