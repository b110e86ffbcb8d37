-- Rows that stand in blocks (this project's own).
use Rattle.std.specs.Prelude.{◌≡◌, ◌<◌, ◌≤◌, ℕ, Bool, true, List, [], length, slice_index_or}
use Rattle.dl_values.specs.declared.cell.Cell.{Cell}
use Rattle.dl_values.specs.declared.cell.Cell.TheVariants as cell
use Rattle.zones.specs.Tests.{passes}
use Rattle.zones.specs.declared.test.Test.{Test}

-- a row passes where its cell in the column does; beyond its width it counts as null
abbrev pub row_passes : Test → List Cell → Bool
row_passes t row = passes t.op t.literal (slice_index_or row t.column cell.Null)

abbrev pub block_at : List ℕ → ℕ → ℕ
block_at blocks i = slice_index_or blocks i 0

-- from this place on and before the end all rows stand in its block
abbrev pub StandTogether : List ℕ → ℕ → ℕ → Type 0
StandTogether blocks place end = (i : ℕ) → place ≤ i → i < end → block_at blocks i ≡ block_at blocks place

-- a row stands in the block
abbrev pub HasBlock : List (List Cell) → List ℕ → ℕ → Type 0
HasBlock rows blocks block = (i : ℕ) × (i < length rows) × (block_at blocks i ≡ block)

-- true wherever a row of the block passes
abbrev pub FindsMatches : List (List Cell) → List ℕ → ℕ → Test → Bool → Type 0
FindsMatches rows blocks block t may = (i : ℕ) → i < length rows → block_at blocks i ≡ block → row_passes t (slice_index_or rows i []) ≡ true → may ≡ true
