-- The first cells are those of the row.
use Rattle.std.proofs.Common.{◌≡◌, take}
use Rattle.merge_read.specs.Merged.{row_of}
use Rattle.merge_read.proofs.present.begin.Given as goal

abbrev pub invariant-loop-column : goal.invariant-loop-column
invariant-loop-column l = row_of (take l.column l.cells) ≡ take l.column l.row
