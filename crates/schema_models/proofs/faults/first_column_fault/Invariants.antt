use Rattle.std.proofs.Common.{◌≡◌, [], take, drop}
use Rattle.schema_models.specs.Faults.{first_of}
use Rattle.schema_models.specs.ShapeRules.{faults_after}
use Rattle.schema_models.proofs.faults.first_column_fault.Given as goal

abbrev pub invariant-loop-at : goal.invariant-loop-at
invariant-loop-at l = first_of (faults_after l.model (take l.at l.columns) (drop l.at l.columns)) ≡ first_of (faults_after l.model [] l.columns)
