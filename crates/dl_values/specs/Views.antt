-- The cells of one row among cells that stand column after column.
use Rattle.std.specs.Prelude.{ℕ, zero, suc, ◌+◌, List, [], ◌∷◌, slice_index_or}
use Rattle.dl_values.specs.declared.cell.Cell.{Cell}
use Rattle.dl_values.specs.declared.cell.Cell.TheVariants as cell

-- so many cells, the first of them at the place `at`, and each `step` places behind the one before it: cell c is the cell
-- at place `c * step + at`
abbrev pub every : ℕ → ℕ → ℕ → List Cell → List Cell
every zero step at cells = []
every (suc count) step at cells = slice_index_or cells at cell.Null ∷ every count step (at + step) cells
