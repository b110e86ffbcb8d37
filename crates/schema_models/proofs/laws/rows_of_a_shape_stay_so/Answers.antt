use Rattle.schema_models.proofs.RowsStay.{merged_stays, fold_stays}
use Rattle.schema_models.proofs.laws.rows_of_a_shape_stay_so.Goals as goal

pub returns-clause-merged : goal.returns-clause-merged
returns-clause-merged c = merged_stays

pub returns-clause-folded : goal.returns-clause-folded
returns-clause-folded c = fold_stays
