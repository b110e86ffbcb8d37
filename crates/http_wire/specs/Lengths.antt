-- The length that the fields of a head give its body (RFC 9112, section 6.3, narrowed by this project).
use Rattle.std.specs.Prelude.{◌≡◌, ◌≢◌, ◌≤◌, ◌<◌, ◌⊎◌, All, List, [], MatchOption, Option, ℕ, codes, length}
use Rattle.std.specs.Char.{IsAsciiDigit}
use Rattle.std.specs.Str.Parse.{digits_value}
use Rattle.http_wire.specs.Fields.{values_of}

-- the values that say how the body is coded
abbrev pub codings : List (List ℕ × List ℕ) → List (List ℕ)
codings = values_of (codes "transfer-encoding")

-- the values that say how long the body is
abbrev pub lengths : List (List ℕ × List ℕ) → List (List ℕ)
lengths = values_of (codes "content-length")

-- 1 to 19 decimal digits
abbrev pub IsLengthText : List ℕ → Type 0
IsLengthText value = (0 < length value) × (length value ≤ 19) × All IsAsciiDigit value

-- the values all write the same number
abbrev pub AllWrite : ℕ → List (List ℕ) → Type 0
AllWrite n values = All (λ value. digits_value 10 value ≡ n) values

-- the fields give the body this length: 0 where none says it
pub record HasLength (fields : List (List ℕ × List ℕ)) (n : ℕ) : Type 0 where
  pub uncoded : codings fields ≡ []
  pub digits : All IsLengthText (lengths fields)
  pub equal : AllWrite n (lengths fields)
  pub absent : lengths fields ≡ [] → n ≡ 0

-- the fields give the body no length: a coding is named, a length is not 1 to 19 digits, or two lengths differ
abbrev pub HasBadLength : List (List ℕ × List ℕ) → Type 0
HasBadLength fields =
    (codings fields ≢ []) ⊎ ¬ (All IsLengthText (lengths fields)) ⊎ ((n : ℕ) → ¬ (AllWrite n (lengths fields)))

-- what was found in the first fields: their one length, where one says it
pub record HasFound (fields : List (List ℕ × List ℕ)) (found : Option ℕ) : Type 0 where
  pub uncoded : codings fields ≡ []
  pub digits : All IsLengthText (lengths fields)
  pub equal : MatchOption found (lengths fields ≡ []) (λ n. (lengths fields ≢ []) × AllWrite n (lengths fields))
