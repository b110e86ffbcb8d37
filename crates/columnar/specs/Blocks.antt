-- Rows by column: in blocks of 1,024 rows, the cells of each block column after column (this project's own).
use Rattle.std.specs.Prelude.{◌≡◌, ◌<◌, ◌≤◌, ◌*◌, ℕ, List, [], ◌∷◌, map, length, slice_index_or}
use Rattle.std.specs.List.{flat_map, range_with_len}
use Rattle.columnar.specs.Marks.{marks_of}
use Rattle.columnar.specs.MarksView.{MarksView}
use Rattle.dl_values.specs.Views.{every}
use Rattle.dl_values.specs.declared.cell.Cell.{Cell}
use Rattle.dl_values.specs.declared.cell.Cell.TheVariants as cell
use Rattle.schema_models.specs.ShapeView.{ShapeView}
use Rattle.zones.specs.Ends.{EndsView, ends_of}

-- the cell of each row in a column
abbrev pub column_of : ℕ → List (List Cell) → List Cell
column_of c rows = map (λ r. slice_index_or r c cell.Null) rows

-- the rows of cells that stand column after column: so many rows of so many cells
abbrev pub across : ℕ → ℕ → List Cell → List (List Cell)
across width count cells = map (λ at. every width count at cells) (range_with_len 0 count)

-- the least and the greatest cell of each column
abbrev pub zones_of : ℕ → List (List Cell) → List EndsView
zones_of width rows = map (λ c. ends_of (column_of c rows)) (range_with_len 0 width)

-- the cells of a block are as many rows of as many cells, and its zones are those of its columns
pub record IsBlock (width count : ℕ) (cells : List Cell) (zones : List EndsView) : Type 0 where
  pub some : 0 < count
  pub whole : width * count ≡ length cells
  pub zoned : zones ≡ zones_of width (across width count cells)

-- blocks one after the other
abbrev pub all_rows : List (List (List Cell)) → List (List Cell)
all_rows blocks = flat_map (λ b. b) blocks

-- each block but the last has 1,024 rows, and the last has the rest
abbrev pub AreFull : List (List (List Cell)) → Type 0
AreFull [] = Unit {0}
AreFull (b ∷ []) = (0 < length b) × (length b ≤ 1024)
AreFull (b ∷ c ∷ bs) = (length b ≡ 1024) × AreFull (c ∷ bs)

pub record AreBlocks (count : ℕ) (blocks : List (List (List Cell))) : Type 0 where
  pub full : AreFull blocks
  pub counted : count ≡ length (all_rows blocks)

-- what contracts see of rows by column: the marks of their shape, and the rows in their order
pub record BlocksView : Type 0 where
  pub marks : MarksView
  pub rows : List (List Cell)

-- they were made of these rows of a shape
pub record AreBlocksOf (s : ShapeView) (rows : List (List Cell)) (b : BlocksView) : Type 0 where
  pub marks : b.marks ≡ marks_of s
  pub rows_are : b.rows ≡ rows
