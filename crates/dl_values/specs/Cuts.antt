-- Rows that stand one after the other in one list of cells, each up to its end.
use Rattle.std.specs.Prelude.{ℕ, zero, suc, ◌≡◌, ◌-◌, ◌≤◌, List, [], ◌∷◌, take, drop, length}
use Rattle.dl_values.specs.declared.cell.Cell.{Cell}

-- the rows that end at these places, of which the first starts at the place `from`
abbrev pub cut : ℕ → List ℕ → List Cell → List (List Cell)
cut from [] cells = []
cut from (end ∷ ends) cells = take (end - from) cells ∷ cut end ends (drop (end - from) cells)

-- the ends ascend, and the last is the end of the cells
abbrev pub IsCut : ℕ → List ℕ → List Cell → Type 0
IsCut from [] cells = length cells ≡ 0
IsCut from (end ∷ ends) cells = (from ≤ end) × (end - from ≤ length cells) × IsCut end ends (drop (end - from) cells)

-- where the row at a place starts
abbrev pub start_of : ℕ → List ℕ → ℕ → ℕ
start_of from [] place = from
start_of from (d ∷ ds) zero = from
start_of from (d ∷ ds) (suc place) = start_of d ds place
