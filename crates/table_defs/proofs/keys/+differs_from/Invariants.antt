use Rattle.std.proofs.Common.{length}
use Rattle.table_defs.proofs.keys.+differs_from.Given as goal

abbrev pub decreases-differs_from : goal.decreases-differs_from
decreases-differs_from l = length l.names.now
