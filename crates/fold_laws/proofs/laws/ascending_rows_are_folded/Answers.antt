use Rattle.fold_laws.proofs.Folds.{fold_fixed}
use Rattle.fold_laws.proofs.Merges.{fold_of_rising}
use Rattle.fold_laws.proofs.laws.ascending_rows_are_folded.Goals as goal

pub returns-clause-gathered : goal.returns-clause-gathered
returns-clause-gathered g c = λ cmp key all f rows a e. fold_fixed f.order key f.apart f.gathers rows a e

pub returns-clause-rising : goal.returns-clause-rising
returns-clause-rising g c = λ cmp key op m rows r. fold_of_rising m.order m.merges m.apart rows r
