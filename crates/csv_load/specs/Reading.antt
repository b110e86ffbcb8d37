-- What the reader of `csv` still has to give, as it is set here.
use Rattle.std.specs.Prelude.{◌≡◌, ◌∷◌, [], ◌++◌, ℕ, List, true, false, Option, Some, None, if◌then◌else◌}
use Rattle.csv.specs.Machine.{step, is_end, fields_after, field_after, ends_at_end}
use Rattle.csv.specs.Reading.{Ready, source_of, is_flexible, has_failed}
use Rattle.csv.specs.declared.error.ErrorKind.{ErrorKind}
use Rattle.csv.specs.declared.error.ErrorKind.TheVariants as kind
use Rattle.csv.specs.declared.parser.Config.{Config}
use Rattle.csv.specs.declared.parser.State.{State}
use Rattle.csv.specs.declared.parser.Terminator.TheVariants as term
use Rattle.csv.specs.declared.reader.Reader.{Reader}
use Rattle.csv.specs.declared.reader.Trim.TheVariants as trim

-- how a body is read: no quotes, no escapes, no comments
abbrev pub body_config : ℕ → Config
body_config separator = record { delimiter = separator; quote = 34; escape = None; double_quote = true; quoting = false; comment = None; terminator = term.CRLF }

-- every record that is still to come, from a state, with the fields and the part of a field that were read
unfoldable pub records_from : Config → State → List (List ℕ) → List ℕ → List ℕ → List (List (List ℕ))
records_from cfg s fields field [] = if ends_at_end s then (fields ++ (field ∷ [])) ∷ [] else []
records_from cfg s fields field (c ∷ rest) =
    if is_end (step cfg s c).1 then fields_after (step cfg s c).1 fields field ∷ records_from cfg (step cfg s c).0 [] [] rest
    else records_from cfg (step cfg s c).0 (fields_after (step cfg s c).1 fields field) (field_after (step cfg s c).1 c field) rest

-- the same where the bytes that are left are known
abbrev pub records_of_known : Config → State → Option (List ℕ) → List (List (List ℕ))
records_of_known cfg s None = []
records_of_known cfg s (Some bytes) = records_from cfg s [] [] bytes

-- the records that a reader has left
abbrev pub records_left : {R : Type 0} → (R → Option (List ℕ)) → Reader R → List (List (List ℕ))
records_left rem r = records_of_known r.config r.state (source_of rem r)

-- a reader that is set to read a body, as long as it has not failed
pub record IsReading {R : Type 0} (r : Reader R) : Type 0 where
  pub trims : r.trim ≡ trim.None
  pub ready : Ready r
  pub flexible : is_flexible r ≡ true

abbrev pub ReadsBody : {R : Type 0} → Reader R → Type 0
ReadsBody r = has_failed r ≡ false → IsReading r

-- an error from outside the text
abbrev pub IsOutside : ErrorKind → Type 0
IsOutside (kind.Io e) = Unit {0}
IsOutside kind.OutOfMemory = Unit {0}
IsOutside (kind.UnequalLengths pos expected len) = ⊥
IsOutside (kind.Utf8 pos err) = ⊥
IsOutside (kind.Serialize text) = ⊥
IsOutside (kind.Deserialize pos err) = ⊥
