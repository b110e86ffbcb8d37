-- The columns that column words name, and the first word at fault (this project's own).
use Rattle.std.specs.Prelude.{◌≡◌, ℕ, ◌+◌, ◌==◌, ◌||◌, List, [], ◌∷◌, ◌++◌, Bool, true, Option, Some, None, is_some, codes, if◌then◌else◌, take, drop, length, position, option_map}
use Rattle.std.specs.Option.{option_and_then}
use Rattle.std.specs.Str.{bytes_eq}
use Rattle.dl_values.specs.declared.col_type.ColType.{ColType}
use Rattle.schema_models.specs.Faults.{first_of}
use Rattle.schema_models.specs.ShapeRules.{column_faults}
use Rattle.schema_models.specs.ShapeView.{ShapeView}
use Rattle.schema_models.specs.declared.column_def.ColumnDef.{ColumnDef}
use Rattle.schema_models.specs.declared.model.Model.{Model}
use Rattle.schema_models.specs.declared.model.Model.TheVariants as model
use Rattle.schema_models.specs.declared.role.Role.{Role}
use Rattle.schema_models.specs.declared.shape_error.ShapeError.{ShapeError}
use Rattle.schema_models.specs.declared.shape_error.ShapeError.TheVariants as fault
use Rattle.service.specs.TypeWords.{role_of, type_of}
use Rattle.service.specs.declared.exit.Exit.{Exit}
use Rattle.service.specs.declared.exit.Exit.TheVariants as exit

-- the parts of a text before and behind its first colon, where it has one
abbrev pub cut_at_colon : List ℕ → Option (List ℕ × List ℕ)
cut_at_colon text = option_map (λ i. (take i text, drop (i + 1) text)) (position (λ b. b == 58) text)

-- a nullable column without a default
abbrev pub column : List ℕ → Option ColType → Option Role → Option ColumnDef
column name (Some t) (Some r) = Some (record { name = name; kind = t; nullable = true; role = r; default = None })
column name (Some t) None = None
column name None r = None

-- the column that `TYPE:ROLE` gives to a name
abbrev pub typed_column : List ℕ → List ℕ → Option ColumnDef
typed_column name text = option_and_then (λ p. column name (type_of p.0) (role_of p.1)) (cut_at_colon text)

-- the column of a word `name:TYPE:ROLE`
unfoldable pub column_of : List ℕ → Option ColumnDef
column_of word = option_and_then (λ p. typed_column p.0 p.1) (cut_at_colon word)

-- the columns of the words before the first that is no column
abbrev pub onto_columns : Option ColumnDef → List ColumnDef → List ColumnDef
onto_columns None later = []
onto_columns (Some c) later = c ∷ later

unfoldable pub columns_of : List (List ℕ) → List ColumnDef
columns_of [] = []
columns_of (word ∷ words) = onto_columns (column_of word) (columns_of words)

-- whether a column may not stand behind these columns of a table of a model, which has at most 64
abbrev pub is_refused : Model → List ColumnDef → ColumnDef → Bool
is_refused m before c = (length before == 64) || is_some (first_of (column_faults m before c))

-- the number of the first word at fault, where the first of these has the number n: it is no column, or its column may not
-- stand behind those before it
abbrev pub bad_from : Model → ℕ → List ColumnDef → Option ColumnDef → (ColumnDef → Option ℕ) → Option ℕ
bad_from m n before None later = Some n
bad_from m n before (Some c) later = if is_refused m before c then Some n else later c

unfoldable pub bad_word : Model → ℕ → List ColumnDef → List (List ℕ) → Option ℕ
bad_word m n before [] = None
bad_word m n before (word ∷ words) = bad_from m n before (column_of word) (λ c. bad_word m (n + 1) (before ++ c ∷ []) words)

-- the number of the first column word: the command is word 1, and the model word 2
abbrev pub first_column : ℕ
first_column = 3

-- the place of the column at fault
abbrev pub place_of : ShapeError → ℕ
place_of (fault.TooManyColumns limit) = limit
place_of (fault.BadName column) = column
place_of (fault.DoubleName column) = column
place_of (fault.BadType column) = column
place_of (fault.NoKey column) = column
place_of (fault.KeyAfterValue column) = column
place_of (fault.BadAgg column) = column
place_of (fault.BadDefault column) = column

-- the model of a letter: `A` is Aggregate, `U` is Unique, and `D`, the last one that a form may have, is Duplicate
abbrev pub model_of : ℕ → Model
model_of letter = if letter == 65 then model.Aggregate else if letter == 85 then model.Unique else model.Duplicate

-- the table of a model and column words
abbrev pub shape_of : Model → List (List ℕ) → ShapeView
shape_of m words = record { model = m; columns = columns_of words }

-- why column words are refused: a word is at fault, which the refusal names, or memory was short
abbrev pub RefusesWords : Model → List (List ℕ) → Exit → Type 0
RefusesWords m words (exit.BadDef word) = bad_word m first_column [] words ≡ Some word
RefusesWords m words exit.NoMemory = Unit {0}
RefusesWords m words _ = ⊥
