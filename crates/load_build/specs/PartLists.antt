-- The rows of a load in one partition, by bucket, and how they grow by a row.
use Rattle.std.specs.Prelude.{ℕ, List, [], ◌∷◌, ◌++◌, Option, Some, None, map, get_or, slice_set}
use Rattle.std.specs.List.{AllByRecursion, range_with_len}
use Rattle.dl_values.specs.declared.cell.Cell.{Cell}
use Rattle.partitions.specs.Places.{Place}
use Rattle.schema_models.specs.RowRules.{IsOfShape}
use Rattle.schema_models.specs.ShapeView.{ShapeView}

-- the number of a partition, and the rows of its buckets from the first on
pub record PartLists : Type 0 where
  pub part : ℕ
  pub lists : List (List (List Cell))

abbrev pub no_lists : ℕ → PartLists
no_lists part = record { part = part; lists = [] }

abbrev pub no_parts : ℕ → List PartLists
no_parts count = map no_lists (range_with_len 0 count)

abbrev pub no_rows : ℕ → List (List Cell)
no_rows bucket = []

abbrev pub empty_lists : ℕ → List (List (List Cell))
empty_lists buckets = map no_rows (range_with_len 0 buckets)

-- a list for each bucket, where there is none
abbrev pub opened_lists : ℕ → List (List (List Cell)) → List (List (List Cell))
opened_lists buckets [] = empty_lists buckets
opened_lists buckets (x ∷ xs) = x ∷ xs

abbrev pub opened : ℕ → PartLists → PartLists
opened buckets p = record { part = p.part; lists = opened_lists buckets p.lists }

-- a row more in one bucket
abbrev pub list_with : ℕ → List Cell → List (List (List Cell)) → List (List (List Cell))
list_with bucket row lists = slice_set lists bucket (get_or lists bucket [] ++ row ∷ [])

abbrev pub with_row : ℕ → ℕ → List Cell → PartLists → PartLists
with_row buckets bucket row p = record { part = p.part; lists = list_with bucket row (opened_lists buckets p.lists) }

-- and in the partition at a place of the list, if one is there
abbrev pub with_row_at : ℕ → ℕ → ℕ → List Cell → List PartLists → List PartLists
with_row_at part buckets bucket row parts = slice_set parts part (with_row buckets bucket row (get_or parts part (no_lists 0)))

-- a row more at its place, if it has one
abbrev pub with_placed : ℕ → Option Place → List Cell → List PartLists → List PartLists
with_placed buckets None row parts = parts
with_placed buckets (Some w) row parts = with_row_at w.part buckets w.bucket row parts

-- all rows are of the shape
abbrev pub AreShaped : ShapeView → List PartLists → Type 0
AreShaped s parts = AllByRecursion (λ (p : PartLists). AllByRecursion (AllByRecursion (IsOfShape s)) p.lists) parts
