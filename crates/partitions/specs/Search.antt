-- What a layout keeps to find places fast: its partitions by ascending ranges, and the positions of its columns.
use Rattle.std.specs.Prelude.{◌≡◌, ℕ, ◌<◌, Bool, true, cond, List, [], ◌∷◌, Option, Some, None, length, nat_eq, position, slice_get, slice_index_or}
use Rattle.std.specs.List.{list_any, AllByRecursion}
use Rattle.std.specs.Str.{bytes_eq}
use Rattle.dl_values.specs.declared.cell.Cell.{Cell}
use Rattle.partitions.specs.LayoutView.{LayoutView, whole_part}
use Rattle.partitions.specs.Places.{low_end, high_end}
use Rattle.partitions.specs.Ranges.{ends_before, ends_rise}
use Rattle.partitions.specs.declared.part_def.PartDef.{PartDef}
use Rattle.partitions.specs.declared.part_def.Bounds.{Bounds}

-- the range of the partition with a number
abbrev pub bounds_at : List PartDef → ℕ → Bounds
bounds_at parts n = (slice_index_or parts n (whole_part [])).bounds

-- one range ends where another begins, or before it
abbrev pub lies_before : Bounds → Bounds → Bool
lies_before a b = ends_before (high_end a) (low_end b)

-- numbers of partitions by ascending ranges, each of them with a value
abbrev pub AreAscending : List PartDef → List ℕ → Type 0
AreAscending parts [] = Unit {0}
AreAscending parts (n ∷ ns) =
    (n < length parts) × (ends_rise (low_end (bounds_at parts n)) (high_end (bounds_at parts n)) ≡ true)
    × AllByRecursion (λ m. lies_before (bounds_at parts n) (bounds_at parts m) ≡ true) ns × AreAscending parts ns

-- all partitions by ascending ranges
pub record IsOrder (parts : List PartDef) (order : List ℕ) : Type 0 where
  pub ascends : AreAscending parts order
  pub all : (n : ℕ) → n < length parts → list_any (λ m. nat_eq m n) order ≡ true

-- a number behind those that pass a test, before the first that does not
abbrev pub put_behind : (ℕ → Bool) → ℕ → List ℕ → List ℕ
put_behind test n [] = n ∷ []
put_behind test n (m ∷ ms) = cond (test m) (m ∷ put_behind test n ms) (n ∷ m ∷ ms)

-- the number of a further partition behind those whose ranges lie before its own
abbrev pub with_number : List PartDef → Bounds → List ℕ → List ℕ
with_number parts b order = put_behind (λ m. lies_before (bounds_at parts m) b) (length parts) order

-- the position of the first column with a name
abbrev pub position_of : List (List ℕ) → List ℕ → Option ℕ
position_of names name = position (λ n. bytes_eq n name) names

abbrev pub column_position : List (List ℕ) → Option (List ℕ) → Option ℕ
column_position names None = None
column_position names (Some name) = position_of names name

-- the positions of the columns with these names, without those that no column has
abbrev pub with_position : Option ℕ → List ℕ → List ℕ
with_position None positions = positions
with_position (Some p) positions = p ∷ positions

abbrev pub positions_of : List (List ℕ) → List (List ℕ) → List ℕ
positions_of names [] = []
positions_of names (h ∷ hs) = with_position (position_of names h) (positions_of names hs)

-- the cell at a position
abbrev pub cell_at : Option ℕ → List Cell → Option Cell
cell_at None row = None
cell_at (Some p) row = slice_get row p

-- what a layout keeps is right
pub record IsSearchable (l : LayoutView) (order : List ℕ) (column_at : Option ℕ) (hash_at : List ℕ) : Type 0 where
  pub ordered : IsOrder l.parts order
  pub column : column_at ≡ column_position l.columns l.column
  pub hash : hash_at ≡ positions_of l.columns l.hash
