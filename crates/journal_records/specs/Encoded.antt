-- What contracts see of the bytes of rows: the rows that they spell (this project's own).
use Rattle.std.specs.Prelude.{◌≡◌, ℕ, List, [], Result, Ok, Err}
use Rattle.dl_values.specs.declared.cell.Cell.{Cell}
use Rattle.journal_records.specs.Spelling.{rows}
use Rattle.journal_records.specs.Fitting.{FitsList, FitsRow}
use Rattle.journal_records.specs.Reading.{rows_at}

abbrev pub value_of : {A : Type 0} → Result (List A × List ℕ) ℕ → List A
value_of (Ok x) = x.0
value_of (Err n) = []

abbrev pub rows_of : List ℕ → List (List Cell)
rows_of bytes = value_of (rows_at bytes)

-- the bytes are the spelling of rows that are read again
pub record AreRows (bytes : List ℕ) : Type 0 where
  pub spelled : bytes ≡ rows (rows_of bytes)
  pub fit : FitsList FitsRow (rows_of bytes)

-- reading without what is read
abbrev pub behind : {A : Type 0} → Result (A × List ℕ) ℕ → Result (List ℕ) ℕ
behind (Ok x) = Ok x.1
behind (Err n) = Err n
