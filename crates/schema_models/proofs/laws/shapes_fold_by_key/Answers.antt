use Rattle.schema_models.proofs.RowMerges.{shape_folding}
use Rattle.schema_models.proofs.laws.shapes_fold_by_key.Goals as goal

pub returns : goal.returns
returns c = shape_folding
