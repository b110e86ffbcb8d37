-- The records of a body: its lines that are not empty, each cut into fields (this project's own: no quoting, and a CR
-- alone ends a line too).
use Rattle.std.specs.Prelude.{ℕ, ◌==◌, ◌||◌, List, [], ◌∷◌, Bool, true, false, if◌then◌else◌, map, take, drop}
use Rattle.std.specs.List.{filter, slice_split}
use Rattle.std.specs.Str.{bytes_eq}

-- the byte order mark, U+FEFF in UTF-8 (RFC 3629, section 6)
abbrev pub byte_order_mark : List ℕ
byte_order_mark = 0xEF ∷ 0xBB ∷ 0xBF ∷ []

-- a mark at the start of a text is no part of it: it is dropped, once
unfoldable pub without_mark : List ℕ → List ℕ
without_mark text = if bytes_eq (take 3 text) byte_order_mark then drop 3 text else text

-- LF and CR end a line; between the two of CRLF stands an empty line, and those are skipped
abbrev pub ends_line : ℕ → Bool
ends_line b = (b == 10) || (b == 13)

abbrev pub has_bytes : List ℕ → Bool
has_bytes [] = false
has_bytes (b ∷ rest) = true

-- the lines of a text that are not empty
abbrev pub lines : List ℕ → List (List ℕ)
lines text = filter has_bytes (slice_split ends_line text)

-- the fields of a line, between the separators; no byte quotes another
abbrev pub line_fields : ℕ → List ℕ → List (List ℕ)
line_fields separator line = slice_split (λ b. b == separator) line

-- the records of a body, each a list of fields
unfoldable pub records : ℕ → List ℕ → List (List (List ℕ))
records separator body = map (line_fields separator) (lines (without_mark body))
