use Rattle.std.proofs.Common.{length}
use Rattle.select_defs.proofs.columns.+cell_under.Given as goal

abbrev pub decreases-cell_under : goal.decreases-cell_under
decreases-cell_under l = length l.defs.now
