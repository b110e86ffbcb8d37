-- A row of a shape has as many cells as the shape has columns.
use Rattle.std.proofs.Common.{◌≡◌, List, [], ◌∷◌, Bool, true, false, ◌&&◌, length, refl, ap, suc}
use Rattle.std.specs.List.{AllByRecursion}
use Rattle.columnar.proofs.Lists.{all_imply}
use Rattle.dl_values.specs.declared.cell.Cell.{Cell}
use Rattle.schema_models.specs.CellTypes.{fits_column}
use Rattle.schema_models.specs.RowRules.{IsOfShape, fits_columns}
use Rattle.schema_models.specs.ShapeView.{ShapeView}
use Rattle.schema_models.specs.declared.column_def.ColumnDef.{ColumnDef}

both : (a b : Bool) → (a && b) ≡ true → b ≡ true
both true b e = e
both false b e = cc

width : (cs : List ColumnDef) (row : List Cell) → fits_columns cs row ≡ true → length cs ≡ length row
width [] [] e = refl
width [] (x ∷ xs) e = cc
width (c ∷ cs) [] e = cc
width (c ∷ cs) (x ∷ xs) e = ap suc (width cs xs (both (fits_column c x) (fits_columns cs xs) e))

pub widths : (s : ShapeView) (rows : List (List Cell)) → AllByRecursion (IsOfShape s) rows → AllByRecursion (λ r. length s.columns ≡ length r) rows
widths s rows a = all_imply (IsOfShape s) (λ r. length s.columns ≡ length r) (λ r e. width s.columns r e) rows a
