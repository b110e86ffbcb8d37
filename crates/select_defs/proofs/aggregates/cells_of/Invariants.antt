use Rattle.std.proofs.Common.{◌≡◌, map, take}
use Rattle.select_defs.specs.Columns.{cell_named}
use Rattle.select_defs.proofs.aggregates.cells_of.Given as goal

abbrev pub invariant-loop-place : goal.invariant-loop-place
invariant-loop-place l = l.cells.items ≡ map (cell_named l.shape l.name) (take l.place l.rows)
