use Rattle.std.proofs.Common.{refl}
use Rattle.front_laws.proofs.parted.reports_of_a_table.Goals as goal

pub returns-clause-tables : goal.returns-clause-tables
returns-clause-tables c = refl

pub returns-clause-before : goal.returns-clause-before
returns-clause-before c = λ built is. rw is refl

pub returns-clause-after : goal.returns-clause-after
returns-clause-after c = λ built is. rw is refl

pub returns-clause-load : goal.returns-clause-load
returns-clause-load c = λ built. refl

pub returns-clause-job : goal.returns-clause-job
returns-clause-job c = λ built. refl

pub returns-clause-none : goal.returns-clause-none
returns-clause-none c = λ built. refl
