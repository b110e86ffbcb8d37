-- Rows of a shape: one cell for each column, each of them one that its column may have.
use Rattle.std.specs.Prelude.{◌≡◌, Bool, true, false, ◌&&◌, List, [], ◌∷◌}
use Rattle.dl_values.specs.declared.cell.Cell.{Cell}
use Rattle.schema_models.specs.CellTypes.{fits_column}
use Rattle.schema_models.specs.ShapeView.{ShapeView}
use Rattle.schema_models.specs.declared.column_def.ColumnDef.{ColumnDef}

abbrev pub fits_columns : List ColumnDef → List Cell → Bool
fits_columns [] [] = true
fits_columns (c ∷ cs) (x ∷ xs) = fits_column c x && fits_columns cs xs
fits_columns _ _ = false

-- a row is of a shape
abbrev pub IsOfShape : ShapeView → List Cell → Type 0
IsOfShape s row = fits_columns s.columns row ≡ true
