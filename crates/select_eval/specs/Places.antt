-- Columns by places that were looked up once, before any row (this project's own).
use Rattle.std.specs.Prelude.{ℕ, Bool, true, false, List, slice_index_or, Option, Some, None}
use Rattle.std.specs.List.{position}
use Rattle.std.specs.Str.{bytes_eq}
use Rattle.dl_values.specs.declared.cell.Cell.{Cell}
use Rattle.dl_values.specs.declared.cell.Cell.TheVariants as cell
use Rattle.schema_models.specs.ShapeView.{ShapeView}
use Rattle.schema_models.specs.declared.column_def.ColumnDef.{ColumnDef}

-- the place of the column of a name
abbrev pub place_of : ShapeView → List ℕ → Option ℕ
place_of s name = position (λ (c : ColumnDef). bytes_eq c.name name) s.columns

-- the cell of a row at a place, and null where there is none
abbrev pub cell_in : List Cell → Option ℕ → Cell
cell_in row None = cell.Null
cell_in row (Some n) = slice_index_or row n cell.Null

abbrev pub is_number : Cell → Bool
is_number (cell.Int n) = true
is_number _ = false
