use Rattle.partitions.proofs.Valid.{added_valid, defined_valid}
use Rattle.partitions.proofs.laws.what_is_defined_is_a_layout.Goals as goal

pub returns-clause-built : goal.returns-clause-built
returns-clause-built c = defined_valid

pub returns-clause-added : goal.returns-clause-added
returns-clause-added c = added_valid
