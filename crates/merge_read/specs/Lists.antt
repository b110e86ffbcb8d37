-- The lists that a reading merges.
use Rattle.std.specs.Prelude.{ℕ, List, length}
use Rattle.std.specs.List.{AllByRecursion, flat_map}
use Rattle.dl_values.specs.Order.{row_cmp}
use Rattle.dl_values.specs.declared.cell.Cell.{Cell}
use Rattle.fold_laws.specs.Fold.{Ascends}
use Rattle.schema_models.specs.Folds.{key_of}
use Rattle.schema_models.specs.RowRules.{IsOfShape}
use Rattle.schema_models.specs.ShapeView.{ShapeView}

-- rows of a shape that ascend by its key, in the Duplicate model by whole row
pub record IsSortedList (s : ShapeView) (list : List (List Cell)) : Type 0 where
  pub rows : AllByRecursion (IsOfShape s) list
  pub rising : Ascends row_cmp (key_of s) list

abbrev pub AreSortedLists : ShapeView → List (List (List Cell)) → Type 0
AreSortedLists s lists = AllByRecursion (IsSortedList s) lists

-- the rows of lists, the oldest list first
abbrev pub joined : List (List (List Cell)) → List (List Cell)
joined lists = flat_map (λ l. l) lists

-- how many rows are stored in lists
abbrev pub stored : List (List (List Cell)) → ℕ
stored lists = length (joined lists)
