-- What the fields of a load ask for.
use Rattle.std.specs.Prelude.{ℕ, ◌==◌, List, [], ◌∷◌, length, codes, Option, Some, None, if◌then◌else◌}
use Rattle.std.specs.Str.{is_utf8}
use Rattle.http_wire.specs.Fields.{values_of}

-- the first of some values
abbrev pub first_of : List (List ℕ) → Option (List ℕ)
first_of [] = None
first_of (value ∷ values) = Some value

-- the value of the first field of this name
unfoldable pub first_value : List ℕ → List (List ℕ × List ℕ) → Option (List ℕ)
first_value name fields = first_of (values_of name fields)

-- the value, where it is UTF-8
abbrev pub if_utf8 : Option (List ℕ) → Option (List ℕ)
if_utf8 None = None
if_utf8 (Some value) = if is_utf8 value then Some value else None

-- the label of a head that has exactly one, in UTF-8
unfoldable pub only_label : List (List ℕ × List ℕ) → Option (List ℕ)
only_label fields =
    if length (values_of (codes "label") fields) == 1 then if_utf8 (first_value (codes "label") fields) else None
