use Rattle.std.proofs.Common.{◌≡◌, ◌++◌, drop}
use Rattle.service.specs.Dryrun.{cells_after}
use Rattle.service.proofs.rows_text.write_more.Given as goal

abbrev pub invariant-loop-cell : goal.invariant-loop-cell
invariant-loop-cell l = l.out.items ++ cells_after (drop l.cell-index l.cells) ≡ l.initial.out.items ++ cells_after l.cells
