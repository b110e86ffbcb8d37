-- The first columns have their marks.
use Rattle.std.proofs.Common.{◌≡◌, map, take}
use Rattle.columnar.specs.Marks.{mark_of}
use Rattle.columnar.proofs.marks.marks_of_columns.Given as goal

abbrev pub invariant-loop-column : goal.invariant-loop-column
invariant-loop-column l = l.marks.items ≡ map mark_of (take l.column-index l.columns)
