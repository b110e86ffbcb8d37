-- What `dryrun` writes, and how it ends (this project's own).
use Rattle.std.specs.Prelude.{◌≡◌, ◌⊎◌, ◌<◌, ℕ, List, [], ◌∷◌, ◌++◌, Bool, true, Option, Some, None, length, nat_lt, if◌then◌else◌}
use Rattle.std.specs.List.{flat_map}
use Rattle.command_words.specs.declared.form.Form.{Form}
use Rattle.command_words.specs.declared.form.Form.TheVariants as form
use Rattle.csv_load.specs.Body.{row_of, tally}
use Rattle.csv_load.specs.Records.{records}
use Rattle.csv_load.specs.declared.parsed.Parsed.{Parsed}
use Rattle.dl_values.specs.Write.{cell_text}
use Rattle.dl_values.specs.declared.cell.Cell.{Cell}
use Rattle.schema_models.specs.Folds.{fold_of}
use Rattle.schema_models.specs.ShapeView.{ShapeView}
use Rattle.schema_models.specs.declared.model.Model.{Model}
use Rattle.service.specs.Columns.{bad_word, first_column, model_of, shape_of}
use Rattle.service.specs.declared.exit.Exit.{Exit}
use Rattle.service.specs.declared.exit.Exit.TheVariants as exit

-- the cells of a row joined by tabs, and a line feed
abbrev pub cells_after : List Cell → List ℕ
cells_after [] = 10 ∷ []
cells_after (c ∷ cs) = 9 ∷ (cell_text c ++ cells_after cs)

abbrev pub row_text : List Cell → List ℕ
row_text [] = 10 ∷ []
row_text (c ∷ cs) = cell_text c ++ cells_after cs

-- the texts of rows, one after the other
unfoldable pub rows_text : List (List Cell) → List ℕ
rows_text rows = flat_map row_text rows

-- the records of a body whose fields end by tabs
unfoldable pub tab_records : List ℕ → List (List (List ℕ))
tab_records body = records 9 body

-- what a body whose fields end by tabs gives a table, in strict mode
unfoldable pub parsed : ShapeView → List ℕ → Parsed
parsed shape body = tally (row_of (λ _. true) true shape.columns) (tab_records body)

-- the text of the fold of the rows of a body
unfoldable pub fold_text : ShapeView → List ℕ → List ℕ
fold_text shape body = rows_text (fold_of shape (parsed shape body).rows)

-- how a body ends the run: by its size in bytes, else by its number of records, else by its first record that gives no row
abbrev pub exit_by_record : Option ℕ → Exit
exit_by_record None = exit.Ok
exit_by_record (Some line) = exit.TooManyFiltered line

abbrev pub exit_of_records : ShapeView → List ℕ → Exit
exit_of_records shape body = if nat_lt 1000000 (length (tab_records body)) then exit.TooBig 1000000 else exit_by_record (parsed shape body).first_bad

unfoldable pub exit_of_body : ShapeView → List ℕ → Exit
exit_of_body shape body = if nat_lt 16777216 (length body) then exit.TooBig 16777216 else exit_of_records shape body

-- how column words and a body end the run
abbrev pub exit_by_word : Option ℕ → Exit → Exit
exit_by_word (Some word) later = exit.BadDef word
exit_by_word None later = later

abbrev pub exit_of_columns : Model → List (List ℕ) → List ℕ → Exit
exit_of_columns m columns body = exit_by_word (bad_word m first_column [] columns) (exit_of_body (shape_of m columns) body)

-- this holds of the model and the columns of a `dryrun`
abbrev pub IfDryrun : Option Form → (Model → List (List ℕ) → Type 0) → Type 0
IfDryrun (Some (form.Dryrun letter columns)) P = P (model_of letter) columns
IfDryrun _ P = Unit {0}

-- the word is the first at fault of a `dryrun`; no other form has one
abbrev pub NamesWord : Option Form → ℕ → Type 0
NamesWord (Some (form.Dryrun letter columns)) word = bad_word (model_of letter) first_column [] columns ≡ Some word
NamesWord _ word = ⊥

-- an exit where this one is due: it, or a device failed, or memory was short; a write can fail only where all was to be
-- written
abbrev pub Judges : Exit → Exit → Type 0
Judges due exit.ReadFault = Unit {0}
Judges due exit.NoMemory = Unit {0}
Judges due exit.WriteFault = due ≡ exit.Ok
Judges due exit.Ok = due ≡ exit.Ok
Judges due exit.Usage = due ≡ exit.Usage
Judges due (exit.Refused at) = due ≡ exit.Refused at
Judges due (exit.BadDef word) = due ≡ exit.BadDef word
Judges due (exit.TooManyFiltered line) = due ≡ exit.TooManyFiltered line
Judges due (exit.TooBig limit) = due ≡ exit.TooBig limit
Judges due exit.Enough = due ≡ exit.Enough

-- an exit where no device failed
abbrev pub EndsBy : Exit → Exit → Type 0
EndsBy due e = (e ≡ due) ⊎ (e ≡ exit.NoMemory)

-- an exit for the sake of the input alone
abbrev pub IsOfInput : Exit → Type 0
IsOfInput exit.Ok = ⊥
IsOfInput exit.Usage = ⊥
IsOfInput exit.WriteFault = ⊥
IsOfInput exit.Enough = ⊥
IsOfInput (exit.Refused at) = ⊥
IsOfInput (exit.BadDef word) = ⊥
IsOfInput exit.ReadFault = Unit {0}
IsOfInput exit.NoMemory = Unit {0}
IsOfInput (exit.TooManyFiltered line) = Unit {0}
IsOfInput (exit.TooBig limit) = Unit {0}

-- an exit for the sake of reading the input: it has more bytes than may be read, a read failed, or memory was short
abbrev pub IsCut : List ℕ → Exit → Type 0
IsCut body exit.ReadFault = Unit {0}
IsCut body exit.NoMemory = Unit {0}
IsCut body (exit.TooBig limit) = (limit ≡ 16777216) × (16777216 < length body)
IsCut body _ = ⊥
