-- Rows that stand side by side in a stored list (this project's own).
use Rattle.std.specs.Prelude.{ℕ, ◌-◌, List, take, drop}
use Rattle.dl_values.specs.declared.cell.Cell.{Cell}

-- the rows from a place to before another
abbrev pub cut : ℕ → ℕ → List (List Cell) → List (List Cell)
cut start end rows = take (end - start) (drop start rows)
