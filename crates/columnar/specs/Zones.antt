-- The rows of each block, and the tests that one of them may pass (this project's own).
use Rattle.std.specs.Prelude.{ℕ, ◌/◌, ◌*◌, Bool, List, map, length, take, drop}
use Rattle.std.specs.List.{range_with_len}
use Rattle.columnar.specs.Blocks.{column_of}
use Rattle.dl_values.specs.declared.cell.Cell.{Cell}
use Rattle.zones.specs.Ends.{ends_of, may_match}
use Rattle.zones.specs.declared.test.Test.{Test}

-- the block of each row: 1,024 rows in each, and the rest in the last
abbrev pub block_numbers : List (List Cell) → List ℕ
block_numbers rows = map (λ i. i / 1024) (range_with_len 0 (length rows))

-- the rows of a block
abbrev pub rows_in : ℕ → List (List Cell) → List (List Cell)
rows_in block rows = take 1024 (drop (1024 * block) rows)

-- whether one of some rows may pass, by the least and the greatest of their cells in the column; beyond the width all are null
abbrev pub rows_may : Test → List (List Cell) → Bool
rows_may t rows = may_match t.op t.literal (ends_of (column_of t.column rows))

-- whether a row of a block may pass
abbrev pub block_may : List (List Cell) → ℕ → Test → Bool
block_may rows block t = rows_may t (rows_in block rows)
