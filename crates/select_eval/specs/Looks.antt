-- The rows of stored lists that a query looks at: those in blocks that each test may match (this project's own).
use Rattle.std.specs.Prelude.{ℕ, ◌+◌, Bool, cond, List, [], ◌∷◌, map}
use Rattle.std.specs.List.{list_all}
use Rattle.dl_values.specs.declared.cell.Cell.{Cell}
use Rattle.merge_read.specs.Lists.{stored}
use Rattle.zones.specs.InBlocks.{block_at}
use Rattle.zones.specs.declared.test.Test.{Test}

-- rows that stand in blocks, with the block of each, and which tests a row of a block may pass
pub record InBlocks : Type 0 where
  pub rows : List (List Cell)
  pub blocks : List ℕ
  pub may : ℕ → Test → Bool

abbrev pub in_blocks : List (List Cell) → List ℕ → (ℕ → Test → Bool) → InBlocks
in_blocks rows blocks may = record { rows = rows; blocks = blocks; may = may }

-- each test may match the block of the row at a place
abbrev pub stays : List Test → List ℕ → (ℕ → Test → Bool) → ℕ → Bool
stays tests blocks may i = list_all (may (block_at blocks i)) tests

-- of rows of which the first stands at a place those whose places stay
abbrev pub kept_from : (ℕ → Bool) → ℕ → List (List Cell) → List (List Cell)
kept_from stay i [] = []
kept_from stay i (row ∷ rows) = cond (stay i) (row ∷ kept_from stay (i + 1) rows) (kept_from stay (i + 1) rows)

abbrev pub kept_rows : List Test → InBlocks → List (List Cell)
kept_rows tests z = kept_from (stays tests z.blocks z.may) 0 z.rows

-- how many rows of lists stand in blocks that each test may match
abbrev pub looked_at : List Test → List InBlocks → ℕ
looked_at tests lists = stored (map (kept_rows tests) lists)
