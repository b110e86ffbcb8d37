use Rattle.fold_laws.proofs.Folds.{fold_left, fold_right, fold_again, fold_each}
use Rattle.schema_models.specs.Folds.{key_of}
use Rattle.schema_models.proofs.RowMerges.{shape_folding}
use Rattle.schema_models.proofs.laws.folds_join.Goals as goal

pub returns-clause-front : goal.returns-clause-front
returns-clause-front c = λ s xs ys. fold_left (shape_folding s).order (key_of s) (shape_folding s).apart (shape_folding s).gathers xs ys

pub returns-clause-back : goal.returns-clause-back
returns-clause-back c = λ s xs ys. fold_right (shape_folding s).order (key_of s) (shape_folding s).apart (shape_folding s).gathers xs ys

pub returns-clause-again : goal.returns-clause-again
returns-clause-again c = λ s rows. fold_again (shape_folding s).order (key_of s) (shape_folding s).apart (shape_folding s).gathers rows

pub returns-clause-each : goal.returns-clause-each
returns-clause-each c = λ s lists. fold_each (shape_folding s).order (key_of s) (shape_folding s).apart (shape_folding s).gathers lists
