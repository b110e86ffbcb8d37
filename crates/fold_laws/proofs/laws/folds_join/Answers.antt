use Rattle.fold_laws.proofs.Folds.{fold_left, fold_right, fold_again, fold_each}
use Rattle.fold_laws.proofs.laws.folds_join.Goals as goal

pub returns-clause-front : goal.returns-clause-front
returns-clause-front g c = λ cmp key all f xs ys. fold_left f.order key f.apart f.gathers xs ys

pub returns-clause-back : goal.returns-clause-back
returns-clause-back g c = λ cmp key all f xs ys. fold_right f.order key f.apart f.gathers xs ys

pub returns-clause-again : goal.returns-clause-again
returns-clause-again g c = λ cmp key all f rows. fold_again f.order key f.apart f.gathers rows

pub returns-clause-each : goal.returns-clause-each
returns-clause-each g c = λ cmp key all f lists. fold_each f.order key f.apart f.gathers lists
