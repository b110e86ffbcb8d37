-- The JSON of refusals, and the statement that a body holds.
use Rattle.std.specs.Prelude.{ℕ, List, [], ◌∷◌, codes, Option, None, option_and_then, if◌then◌else◌}
use Rattle.std.specs.Str.{is_utf8}
use Rattle.std.specs.Str.Lossy.{utf8_lossy}
use Rattle.serde_json.specs.Data.{Data, string}
use Rattle.serde_json.specs.Find.{get, as_str}
use Rattle.serde_json.specs.Read.{read}
use Rattle.reply_json.specs.Texts.{count_json, object_of}

-- a refused statement, with the text that says why (this project's own)
abbrev pub refusal_json : List ℕ → Data
refusal_json text = object_of (
    (codes "code", count_json 1)
    ∷ (codes "data", string text)
    ∷ (codes "msg", string (codes "Error"))
    ∷ [])

-- the same for a text that may not be UTF-8: U+FFFD stands for each part that is not
abbrev pub refused_json : List ℕ → Data
refused_json message = refusal_json (utf8_lossy message)

-- a request that was not served, with the fault's name (this project's own)
abbrev pub error_json : List ℕ → Data
error_json variant = object_of ((codes "error", string variant) ∷ [])

-- the string member `stmt` of a body that is a JSON object (RFC 8259), read as `serde_json` reads values: in UTF-8, nested
-- at most 127 deep; of a member that stands twice the last value counts
abbrev pub stmt_of : List ℕ → Option (List ℕ)
stmt_of body =
    if is_utf8 body then option_and_then as_str (option_and_then (get (codes "stmt")) (read body)) else None
