-- Which words are a command form, and which form (this project's own).
use Rattle.std.specs.Prelude.{ℕ, ◌==◌, ◌||◌, List, [], ◌∷◌, Bool, false, Option, Some, None, codes, if◌then◌else◌, option_map}
use Rattle.std.specs.List.{list_any}
use Rattle.std.specs.Str.{bytes_eq}
use Rattle.command_words.specs.declared.form.Form.{Form}
use Rattle.command_words.specs.declared.form.Form.TheVariants as form

-- a word that begins with `-`
abbrev pub is_dashed : List ℕ → Bool
is_dashed [] = false
is_dashed (c ∷ cs) = c == 45

-- a word that no form takes: one that begins with `-`, or the word `help`
abbrev pub is_option : List ℕ → Bool
is_option word = is_dashed word || bytes_eq word (codes "help")

-- the letters of the models: `A`, `D` and `U`
abbrev pub is_model : ℕ → Bool
is_model letter = (letter == 65) || (letter == 68) || (letter == 85)

-- the model that a word names, by its letter alone
abbrev pub model_of : List ℕ → Option ℕ
model_of (letter ∷ []) = if is_model letter then Some letter else None
model_of _ = None

-- the form of a model word and column words
abbrev pub dryrun_with : List ℕ → List (List ℕ) → Option Form
dryrun_with model columns = option_map (λ letter. form.Dryrun letter columns) (model_of model)

-- `dryrun MODEL COLUMN ..`, of one column or more: the words behind the first
abbrev pub dryrun_of : List (List ℕ) → Option Form
dryrun_of (model ∷ column ∷ columns) = dryrun_with model (column ∷ columns)
dryrun_of _ = None

-- `run`, with no word behind it
abbrev pub run_of : List (List ℕ) → Option Form
run_of [] = Some (form.Run None)
run_of _ = None

-- the form of words without an option
abbrev pub form_behind : List (List ℕ) → Option Form
form_behind [] = None
form_behind (command ∷ words) =
    if bytes_eq command (codes "dryrun") then dryrun_of words else (if bytes_eq command (codes "run") then run_of words else None)

-- the form of the words behind the program's name; words that are none have none
abbrev pub form_of : List (List ℕ) → Option Form
form_of words = if list_any is_option words then None else form_behind words
