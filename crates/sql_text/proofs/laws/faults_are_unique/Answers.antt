use Rattle.sql_grammar.proofs.Places.{spelled_without_fault}
use Rattle.sql_text.proofs.FaultLaws.{one_fault}
use Rattle.sql_text.proofs.laws.faults_are_unique.Goals as goal

pub returns-clause-one : goal.returns-clause-one
returns-clause-one c = λ at place kind other text h k. one_fault at place kind other text h k

pub returns-clause-none : goal.returns-clause-none
returns-clause-none c = λ s at kind text h k. spelled_without_fault s h k.first
