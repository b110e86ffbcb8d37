use Rattle.dl_values.specs.OrderLemmas.{cells_total, cells_same}
use Rattle.dl_values.proofs.laws.cells_are_ordered.Goals as goal

pub returns : goal.returns
returns c = record { total = cells_total; same = cells_same }
