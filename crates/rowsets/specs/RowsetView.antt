-- What contracts see of a rowset (Apache Doris documentation, "Rowset").
use Rattle.std.specs.Prelude.{◌≡◌, List}
use Rattle.std.specs.List.{AllByRecursion}
use Rattle.columnar.specs.Marks.{marks_of}
use Rattle.columnar.specs.MarksView.{MarksView}
use Rattle.dl_values.specs.declared.cell.Cell.{Cell}
use Rattle.dl_values.specs.Order.{row_cmp}
use Rattle.fold_laws.specs.Fold.{Ascends}
use Rattle.schema_models.specs.Folds.{fold_of, key_of}
use Rattle.schema_models.specs.RowRules.{IsOfShape}
use Rattle.schema_models.specs.ShapeView.{ShapeView}

-- the marks of the shape that it was built with, and its rows in their order
pub record RowsetView : Type 0 where
  pub marks : MarksView
  pub rows : List (List Cell)

-- the rows of a rowset
abbrev pub rowset_rows : RowsetView → List (List Cell)
rowset_rows r = r.rows

-- it was built with a shape that has this one's marks
abbrev pub IsMadeFor : ShapeView → RowsetView → Type 0
IsMadeFor s r = r.marks ≡ marks_of s

-- it was built of these rows: it has the marks of the shape and the fold of the rows
pub record IsRowsetOf (s : ShapeView) (rows : List (List Cell)) (r : RowsetView) : Type 0 where
  pub marks : IsMadeFor s r
  pub folded : rowset_rows r ≡ fold_of s rows

-- its rows are of the shape, and ascend by its key
pub record IsSortedFor (s : ShapeView) (r : RowsetView) : Type 0 where
  pub rows : AllByRecursion (IsOfShape s) (rowset_rows r)
  pub rising : Ascends row_cmp (key_of s) (rowset_rows r)

-- a list of rows by a shape
pub record IsListOf (s : ShapeView) (r : RowsetView) : Type 0 where
  pub made : IsMadeFor s r
  pub sorted : IsSortedFor s r

-- what each rowset keeps: it is a list by each shape that has the marks it was built with
abbrev pub IsSound : RowsetView → Type 0
IsSound r = (s : ShapeView) → IsMadeFor s r → IsSortedFor s r
