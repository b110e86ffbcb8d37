use Rattle.fold_laws.proofs.Folds.{fold_stable}
use Rattle.fold_laws.proofs.Streams.{of_stable, sort_is}
use Rattle.fold_laws.proofs.laws.stable_sorting_keeps_the_fold.Goals as goal

pub returns-clause-stable : goal.returns-clause-stable
returns-clause-stable g c = λ cmp key all f before after s. fold_stable f.order key f.apart f.gathers after before (of_stable f.order key before after f.apart s)

pub returns-clause-of_each_key : goal.returns-clause-of_each_key
returns-clause-of_each_key g c = λ cmp key all f xs ys e. fold_stable f.order key f.apart f.gathers xs ys e

pub returns-clause-sorting : goal.returns-clause-sorting
returns-clause-sorting g c = λ cmp key f before after s t. sort_is f.order key f.apart before after s t
