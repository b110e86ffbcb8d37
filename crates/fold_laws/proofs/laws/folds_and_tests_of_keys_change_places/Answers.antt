use Rattle.fold_laws.proofs.Filters.{fold_filter}
use Rattle.fold_laws.proofs.laws.folds_and_tests_of_keys_change_places.Goals as goal

pub returns : goal.returns
returns g c = λ cmp key all f test rows. fold_filter f.order key f.apart f.gathers test rows
