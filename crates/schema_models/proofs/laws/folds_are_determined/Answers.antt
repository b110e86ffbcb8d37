use Rattle.fold_laws.proofs.Folds.{ascends_fold, of_fold, fold_is}
use Rattle.schema_models.specs.Folds.{key_of}
use Rattle.schema_models.proofs.RowMerges.{shape_folding, fold_once}
use Rattle.schema_models.proofs.laws.folds_are_determined.Goals as goal

pub returns-clause-ascends : goal.returns-clause-ascends
returns-clause-ascends c = λ s rows. ascends_fold (shape_folding s).order (key_of s) (shape_folding s).apart (shape_folding s).gathers rows

pub returns-clause-of_each_key : goal.returns-clause-of_each_key
returns-clause-of_each_key c = λ s k rows. of_fold (shape_folding s).order (key_of s) (shape_folding s).apart (shape_folding s).gathers k rows

pub returns-clause-unique : goal.returns-clause-unique
returns-clause-unique c = λ s out rows a e. fold_is (shape_folding s).order (key_of s) (shape_folding s).apart (shape_folding s).gathers out rows a e

pub returns-clause-once : goal.returns-clause-once
returns-clause-once c = fold_once
