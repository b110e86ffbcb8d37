use Rattle.fold_laws.proofs.Filters.{fold_filter}
use Rattle.schema_models.specs.Folds.{key_of}
use Rattle.schema_models.proofs.RowMerges.{shape_folding}
use Rattle.schema_models.proofs.laws.folds_and_tests_of_keys_change_places.Goals as goal

pub returns : goal.returns
returns c = λ s test rows. fold_filter (shape_folding s).order (key_of s) (shape_folding s).apart (shape_folding s).gathers test rows
