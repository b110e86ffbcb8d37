-- The cell of a merged row.
use Rattle.std.specs.Prelude.{List, map}
use Rattle.dl_values.specs.declared.cell.Cell.{Cell}
use Rattle.dl_values.specs.declared.cell.Cell.TheVariants as cell
use Rattle.merge_read.specs.declared.merged_cell.MergedCell.{MergedCell}
use Rattle.merge_read.specs.declared.merged_cell.MergedCell.TheVariants as merged

-- a stored cell, or a sum
abbrev pub cell_of : MergedCell → Cell
cell_of (merged.Kept c) = c.now
cell_of (merged.Sum n) = cell.Int n

abbrev pub row_of : List MergedCell → List Cell
row_of cells = map cell_of cells
