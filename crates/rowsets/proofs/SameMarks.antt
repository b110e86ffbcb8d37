-- What is so of rows by one shape is so by each shape with its marks.
use Rattle.std.proofs.Common.{◌≡◌, Bool, ◌&&◌, List, [], ◌∷◌, map, refl, sym, ◌∙◌, ap, subst}
use Rattle.std.specs.List.{AllByRecursion}
use Rattle.columnar.specs.Marks.{mark_of, marks_of}
use Rattle.columnar.specs.MarksView.{MarksView}
use Rattle.columnar.specs.declared.marks.ColumnMark.{ColumnMark}
use Rattle.dl_values.specs.Order.{row_cmp}
use Rattle.dl_values.specs.declared.cell.Cell.{Cell}
use Rattle.dl_values.specs.declared.cell.Cell.TheVariants as cell
use Rattle.fold_laws.specs.Fold.{Ascends}
use Rattle.schema_models.specs.CellTypes.{fits_column, is_of_type}
use Rattle.schema_models.specs.Folds.{key_in, key_of}
use Rattle.schema_models.specs.RowRules.{IsOfShape, fits_columns}
use Rattle.schema_models.specs.ShapeView.{ShapeView}
use Rattle.schema_models.specs.declared.column_def.ColumnDef.{ColumnDef}
use Rattle.rowsets.specs.RowsetView.{IsSound}

fits_marked : (c d : ColumnDef) (x : Cell) → mark_of c ≡ mark_of d → fits_column c x ≡ fits_column d x
fits_marked c d cell.Null e = ap (λ (m : ColumnMark). m.nullable) e
fits_marked c d (cell.Int x) e = ap (λ (m : ColumnMark). is_of_type m.kind (cell.Int x)) e
fits_marked c d (cell.Day x) e = ap (λ (m : ColumnMark). is_of_type m.kind (cell.Day x)) e
fits_marked c d (cell.Text x) e = ap (λ (m : ColumnMark). is_of_type m.kind (cell.Text x)) e

fits_same : (cs ds : List ColumnDef) (row : List Cell) → map mark_of cs ≡ map mark_of ds → fits_columns cs row ≡ fits_columns ds row
fits_same [] [] row e = refl
fits_same [] (d ∷ ds) row e = cc
fits_same (c ∷ cs) [] row e = cc
fits_same (c ∷ cs) (d ∷ ds) [] e = refl
fits_same (c ∷ cs) (d ∷ ds) (x ∷ xs) e =
    let heads : mark_of c ≡ mark_of d = cc in
    let tails : map mark_of cs ≡ map mark_of ds = cc in
    ap (λ (b : Bool). b && fits_columns cs xs) (fits_marked c d x heads) ∙ ap (λ (b : Bool). fits_column d x && b) (fits_same cs ds xs tails)

rows_same : (s t : ShapeView) (rows : List (List Cell)) → marks_of s ≡ marks_of t → AllByRecursion (IsOfShape s) rows → AllByRecursion (IsOfShape t) rows
rows_same s t [] e all = tt
rows_same s t (r ∷ rs) e all = (sym (fits_same s.columns t.columns r (ap (λ (m : MarksView). m.columns) e)) ∙ all.0, rows_same s t rs e all.1)

-- the fold of rows of a shape is a sound rowset with its marks
pub sound_fold : (s : ShapeView) (marks : MarksView) (rows : List (List Cell)) → marks ≡ marks_of s → AllByRecursion (IsOfShape s) rows → Ascends row_cmp (key_of s) rows → IsSound (record { marks = marks; rows = rows })
sound_fold s marks rows is all rising t made =
    let same : marks_of s ≡ marks_of t = sym is ∙ made in
    record {
      rows = rows_same s t rows same all;
      rising = subst (λ (m : MarksView). Ascends row_cmp (λ row. key_in m.model m.keys row) rows) same rising;
    }
