use Rattle.agg_functions.specs.MergeLemmas.{sum_comm, min_comm, max_comm}
use Rattle.agg_functions.proofs.laws.sums_and_extremes_commute.Goals as goal

pub returns-clause-sum : goal.returns-clause-sum
returns-clause-sum c = sum_comm

pub returns-clause-min : goal.returns-clause-min
returns-clause-min c = min_comm

pub returns-clause-max : goal.returns-clause-max
returns-clause-max c = max_comm
