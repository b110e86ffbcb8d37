use Rattle.front_laws.proofs.Histories.{kept}
use Rattle.front_laws.proofs.Running.{always_whole}
use Rattle.front_laws.proofs.Ahead.{always_ahead}
use Rattle.front_laws.proofs.laws.conversion_meets_double_writes.Goals as goal

pub returns-clause-watershed : goal.returns-clause-watershed
returns-clause-watershed c = λ H l. (kept H l).good.alters.settled

pub returns-clause-folds : goal.returns-clause-folds
returns-clause-folds c = λ H l. (always_whole H l).runs.running

pub returns-clause-ahead : goal.returns-clause-ahead
returns-clause-ahead c = always_ahead
