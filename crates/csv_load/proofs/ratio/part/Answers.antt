use Rattle.std.proofs.Common.{arith, length}
use Rattle.csv_load.proofs.Ratios.{scaled}
use Rattle.csv_load.proofs.ratio.part.Goals as goal

pub returns-clause-size : goal.returns-clause-size
returns-clause-size c = scaled c.in_ok-number.number (length c.args.digits.now) c.pow.result c.in_ok-number.ensures.size (omega arith) c.pow.ensures
