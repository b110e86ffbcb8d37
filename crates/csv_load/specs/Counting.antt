-- What counting one more record changes.
use Rattle.std.specs.Prelude.{ℕ, ◌+◌, List, [], ◌∷◌, ◌++◌, Option, Some, None}
use Rattle.dl_values.specs.declared.cell.Cell.{Cell}
use Rattle.csv_load.specs.declared.parsed.Parsed.{Parsed}

-- what no records give
abbrev pub nothing : Parsed
nothing = record { rows = []; total = 0; filtered = 0; first_bad = None }

-- the number that was found before, or else this one
abbrev pub first_or : Option ℕ → ℕ → Option ℕ
first_or None n = Some n
first_or (Some m) n = Some m

-- one more record, which gives this row or none
abbrev pub counted : Parsed → Option (List Cell) → Parsed
counted p (Some row) = record p { rows = p.rows ++ row ∷ []; total = p.total + 1 }
counted p None = record p { total = p.total + 1; filtered = p.filtered + 1; first_bad = first_or p.first_bad (p.total + 1) }
