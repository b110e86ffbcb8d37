use Rattle.select_defs.proofs.KeptRows.{kept_eval}
use Rattle.select_defs.proofs.laws.folds_that_keep_rows_serve_all.Goals as goal

pub returns : goal.returns
returns c = λ base s q e rows. kept_eval base s q e rows
