use Rattle.dl_values.specs.OrderLemmas.{rows_total, rows_same}
use Rattle.dl_values.proofs.laws.rows_are_ordered.Goals as goal

pub returns : goal.returns
returns c = record { total = rows_total; same = rows_same }
