-- Columns by their names: in a shape, and in a row.
use Rattle.std.specs.Prelude.{ℕ, Bool, cond, List, [], ◌∷◌, Option, Some, None, is_some, unwrap_or}
use Rattle.std.specs.Str.{bytes_eq}
use Rattle.dl_values.specs.declared.cell.Cell.{Cell}
use Rattle.dl_values.specs.declared.cell.Cell.TheVariants as cell
use Rattle.dl_values.specs.declared.col_type.ColType.{ColType}
use Rattle.schema_models.specs.CellsByName.{cell_under, names_of}
use Rattle.schema_models.specs.ShapeView.{ShapeView}
use Rattle.schema_models.specs.declared.column_def.ColumnDef.{ColumnDef}

-- the type of the column of a name, where there is one
abbrev pub kind_under : List ColumnDef → List ℕ → Option ColType
kind_under [] name = None
kind_under (c ∷ cs) name = cond (bytes_eq c.name name) (Some c.kind) (kind_under cs name)

abbrev pub kind_named : ShapeView → List ℕ → Option ColType
kind_named s name = kind_under s.columns name

abbrev pub has_column : ShapeView → List ℕ → Bool
has_column s name = is_some (kind_named s name)

-- the cell of a row in the column of a name; a name that is no column is refused before
abbrev pub cell_named : ShapeView → List ℕ → List Cell → Cell
cell_named s name row = unwrap_or (cell_under (names_of s.columns) name row) cell.Null
