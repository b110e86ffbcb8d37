use Rattle.std.proofs.Common.{◌≡◌, ◌++◌, length, take}
use Rattle.std.specs.List.{flat_map, AllByRecursion}
use Rattle.journal_records.specs.Fitting.{InWidth}
use Rattle.journal_records.specs.Spelling.{number32, cell}
use Rattle.journal_records.proofs.write_fields.put_row.Given as goal

abbrev pub invariant-loop-cell : goal.invariant-loop-cell
invariant-loop-cell l = (l.out.items ≡ l.fn.out.items ++ (number32 (length l.cells) ++ flat_map cell (take l.cell-index l.cells))) × AllByRecursion InWidth (take l.cell-index l.cells)
