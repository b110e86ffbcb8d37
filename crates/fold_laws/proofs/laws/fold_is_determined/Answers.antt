use Rattle.fold_laws.proofs.Folds.{ascends_fold, of_fold, fold_is}
use Rattle.fold_laws.proofs.Merges.{fold_rises}
use Rattle.fold_laws.proofs.laws.fold_is_determined.Goals as goal

pub returns-clause-ascends : goal.returns-clause-ascends
returns-clause-ascends g c = λ cmp key all f rows. ascends_fold f.order key f.apart f.gathers rows

pub returns-clause-of_each_key : goal.returns-clause-of_each_key
returns-clause-of_each_key g c = λ cmp key all f k rows. of_fold f.order key f.apart f.gathers k rows

pub returns-clause-unique : goal.returns-clause-unique
returns-clause-unique g c = λ cmp key all f out rows a e. fold_is f.order key f.apart f.gathers out rows a e

pub returns-clause-rises : goal.returns-clause-rises
returns-clause-rises g c = λ cmp key op m rows. fold_rises m.order m.merges m.apart rows
