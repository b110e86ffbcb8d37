-- What contracts see of a tablet: its rowsets by version (Apache Doris documentation, "Tablet", "Rowset", "Compaction").
use Rattle.std.specs.Prelude.{◌<◌, ◌-◌, ℕ, Bool, List, [], ◌∷◌, ◌++◌, map, length, nat_le, nat_lt}
use Rattle.std.specs.List.{filter, AllByRecursion}
use Rattle.dl_values.specs.declared.cell.Cell.{Cell}
use Rattle.merge_read.specs.Lists.{joined}
use Rattle.rowsets.specs.RowsetView.{IsListOf, RowsetView, rowset_rows}
use Rattle.schema_models.specs.Folds.{fold_of}
use Rattle.schema_models.specs.ShapeView.{ShapeView}

-- a rowset with the first and the last version that it has
pub record StoredList : Type 0 where
  pub first : ℕ
  pub last : ℕ
  pub rowset : RowsetView

-- the rowsets in the order of their versions, and how many there is room for
pub record TabletView : Type 0 where
  pub shape : ShapeView
  pub lists : List StoredList
  pub room : ℕ

-- how many more there is room for
abbrev pub spare : TabletView → ℕ
spare t = t.room - length t.lists

abbrev pub list_rows : StoredList → List (List Cell)
list_rows l = rowset_rows l.rowset

abbrev pub rows_of : List StoredList → List (List (List Cell))
rows_of lists = map (λ l. list_rows l) lists

-- the rowsets up to a version, and those behind it
abbrev pub is_to : ℕ → StoredList → Bool
is_to v l = nat_le l.last v

abbrev pub lists_to : ℕ → List StoredList → List StoredList
lists_to v lists = filter (is_to v) lists

abbrev pub lists_past : ℕ → List StoredList → List StoredList
lists_past v lists = filter (λ l. nat_lt v l.last) lists

-- the rows at a version
abbrev pub rows_at : ℕ → TabletView → List (List Cell)
rows_at v t = fold_of t.shape (joined (rows_of (lists_to v t.lists)))

-- a version is above all
abbrev pub IsPast : ℕ → List StoredList → Type 0
IsPast v lists = AllByRecursion (λ l. l.last < v) lists

-- last versions rise
abbrev pub Rises : List StoredList → Type 0
Rises [] = Unit {0}
Rises (l ∷ ls) = AllByRecursion (λ m. l.last < m.last) ls × Rises ls

abbrev pub AreListsOf : ShapeView → List StoredList → Type 0
AreListsOf s lists = AllByRecursion (λ l. IsListOf s l.rowset) lists

pub record IsTablet (t : TabletView) : Type 0 where
  pub rising : Rises t.lists
  pub sorted : AreListsOf t.shape t.lists

-- with one list more
abbrev pub with_list : StoredList → TabletView → TabletView
with_list l t = record t { lists = t.lists ++ l ∷ [] }

-- a rowset for all up to its last version
abbrev pub replaced : StoredList → TabletView → TabletView
replaced l t = record t { lists = l ∷ lists_past l.last t.lists }
