-- The texts and the members of a response.
use Rattle.std.specs.Prelude.{ℕ, List, [], ◌∷◌}
use Rattle.std.specs.Str.Lossy.{utf8_lossy}
use Rattle.serde_json.specs.Data.{Data, string, number, unsigned, object, Members, member, no_members}

-- a text as a JSON string: itself where it is UTF-8, and else with U+FFFD in place of what is not (the Unicode Standard,
-- section 3.9, "U+FFFD Substitution of Maximal Subparts")
abbrev pub text_json : List ℕ → Data
text_json text = string (utf8_lossy text)

abbrev pub count_json : ℕ → Data
count_json n = number (unsigned n)

abbrev pub members : List (List ℕ × Data) → Members
members [] = no_members
members (m ∷ ms) = member m.0 m.1 (members ms)

-- the JSON object that has these members in this order
abbrev pub object_of : List (List ℕ × Data) → Data
object_of ms = object (members ms)
