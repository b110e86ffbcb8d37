use Rattle.std.proofs.Common.{length}
use Rattle.select_defs.proofs.columns.+cell_of_key.Given as goal

abbrev pub decreases-cell_of_key : goal.decreases-cell_of_key
decreases-cell_of_key l = length l.names.now
