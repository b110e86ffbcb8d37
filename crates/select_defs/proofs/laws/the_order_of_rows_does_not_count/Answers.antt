use Rattle.select_defs.proofs.Exchanges.{exchanges}
use Rattle.select_defs.proofs.laws.the_order_of_rows_does_not_count.Goals as goal

pub returns : goal.returns
returns c = λ base s q front back a b. exchanges base s q front back a b
