use Rattle.fold_laws.proofs.Folds.{fold_stable}
use Rattle.fold_laws.proofs.Streams.{of_stable}
use Rattle.schema_models.specs.Folds.{key_of}
use Rattle.schema_models.proofs.RowMerges.{shape_folding}
use Rattle.schema_models.proofs.laws.stable_sorting_keeps_the_fold.Goals as goal

pub returns-clause-stable : goal.returns-clause-stable
returns-clause-stable c = λ s before after t. fold_stable (shape_folding s).order (key_of s) (shape_folding s).apart (shape_folding s).gathers after before (of_stable (shape_folding s).order (key_of s) before after (shape_folding s).apart t)

pub returns-clause-of_each_key : goal.returns-clause-of_each_key
returns-clause-of_each_key c = λ s xs ys e. fold_stable (shape_folding s).order (key_of s) (shape_folding s).apart (shape_folding s).gathers xs ys e
