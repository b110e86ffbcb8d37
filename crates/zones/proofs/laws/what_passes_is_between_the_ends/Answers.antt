use Rattle.zones.proofs.Between.{found}
use Rattle.zones.proofs.Extremes.{ends_hold}
use Rattle.zones.proofs.laws.what_passes_is_between_the_ends.Goals as goal

pub returns-clause-ends : goal.returns-clause-ends
returns-clause-ends c = ends_hold

pub returns-clause-found : goal.returns-clause-found
returns-clause-found c = found
