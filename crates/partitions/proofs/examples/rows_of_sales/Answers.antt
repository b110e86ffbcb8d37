use Rattle.std.proofs.Common.{refl}
use Rattle.partitions.proofs.examples.rows_of_sales.Goals as goal

pub returns-clause-valid : goal.returns-clause-valid
returns-clause-valid c = record { columns = refl; kind = refl; hash = refl; buckets = refl; parts = refl; few = refl }

pub returns-clause-oslo_hash : goal.returns-clause-oslo_hash
returns-clause-oslo_hash c = refl

pub returns-clause-rome_hash : goal.returns-clause-rome_hash
returns-clause-rome_hash c = refl

pub returns-clause-january : goal.returns-clause-january
returns-clause-january c = refl

pub returns-clause-february : goal.returns-clause-february
returns-clause-february c = refl

pub returns-clause-rome_too : goal.returns-clause-rome_too
returns-clause-rome_too c = refl

pub returns-clause-first_day : goal.returns-clause-first_day
returns-clause-first_day c = refl

pub returns-clause-outside : goal.returns-clause-outside
returns-clause-outside c = refl

pub returns-clause-nothing : goal.returns-clause-nothing
returns-clause-nothing c = refl
