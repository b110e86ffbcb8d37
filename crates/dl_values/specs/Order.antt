-- The order of cells and of rows (this project's own, as Apache Doris orders keys: null is the least).
use Rattle.std.specs.Prelude.{List}
use Rattle.std.specs.Cmp.Lexicographic.{slice_cmp}
use Rattle.std.specs.declared.cmp.Ordering.{Ordering}
use Rattle.std.specs.declared.cmp.Ordering.TheVariants.{Less, Equal, Greater}
use Rattle.std.specs.Ordering.{int_cmp, nat_cmp}
use Rattle.dl_values.specs.declared.cell.Cell.{Cell}
use Rattle.dl_values.specs.declared.cell.Cell.TheVariants as cell

-- null, then integers by value, then days by value, then texts by bytes
abbrev pub cell_cmp : Cell → Cell → Ordering
cell_cmp cell.Null cell.Null = Equal
cell_cmp cell.Null _ = Less
cell_cmp (cell.Int x) cell.Null = Greater
cell_cmp (cell.Int x) (cell.Int y) = int_cmp x y
cell_cmp (cell.Int x) _ = Less
cell_cmp (cell.Day x) (cell.Day y) = nat_cmp x y
cell_cmp (cell.Day x) (cell.Text y) = Less
cell_cmp (cell.Day x) _ = Greater
cell_cmp (cell.Text x) (cell.Text y) = slice_cmp nat_cmp x y
cell_cmp (cell.Text x) _ = Greater

-- rows are ordered by the first cell that differs, and then by length
abbrev pub row_cmp : List Cell → List Cell → Ordering
row_cmp = slice_cmp cell_cmp
