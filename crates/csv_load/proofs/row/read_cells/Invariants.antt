use Rattle.std.proofs.Common.{◌≡◌, drop}
use Rattle.csv.specs.Records.{fields_of}
use Rattle.csv_load.specs.Body.{cells_of}
use Rattle.csv_load.proofs.Cells.{onto_cells}
use Rattle.csv_load.proofs.row.read_cells.Given as goal

abbrev pub invariant-loop-i : goal.invariant-loop-i
invariant-loop-i l = onto_cells l.row (cells_of l.strict (drop l.i l.columns) (drop l.i (fields_of l.fields))) ≡ cells_of l.strict l.columns (fields_of l.fields)
