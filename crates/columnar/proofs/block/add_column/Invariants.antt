-- The column of the first rows has been added.
use Rattle.std.proofs.Common.{◌≡◌, ◌++◌, take, drop}
use Rattle.columnar.specs.Blocks.{column_of}
use Rattle.columnar.proofs.block.add_column.Given as goal

abbrev pub invariant-loop-i : goal.invariant-loop-i
invariant-loop-i l = l.cells.items ≡ l.initial.cells.items ++ column_of l.column (take l.i (drop l.start l.rows))
