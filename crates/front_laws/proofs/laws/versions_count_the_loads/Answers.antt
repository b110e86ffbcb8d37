use Rattle.front_laws.proofs.Counted.{versions_count}
use Rattle.front_laws.proofs.Running.{always_whole}
use Rattle.front_laws.proofs.laws.versions_count_the_loads.Goals as goal

pub returns-clause-counts : goal.returns-clause-counts
returns-clause-counts c = versions_count

pub returns-clause-chains : goal.returns-clause-chains
returns-clause-chains c = λ H l. (always_whole H l).runs.chained
