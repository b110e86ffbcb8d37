use Rattle.select_defs.proofs.KeyTests.{fold_selected}
use Rattle.select_defs.proofs.laws.tests_of_keys_and_folds_change_places.Goals as goal

pub returns : goal.returns
returns c = λ base s q e rows. fold_selected base s q e rows
