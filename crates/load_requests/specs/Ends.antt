-- What the fields of an end of a two-phase load ask for (Apache Doris documentation, "Stream Load", on two-phase commit: `txn_id`,
-- `label`, `txn_operation`; which numbers are taken is this project's own). Of a name that stands twice the first value counts.
use Rattle.std.specs.Prelude.{ℕ, ◌&&◌, Bool, true, false, nat_le, List, length, codes, Option, Some, None, option_map, if◌then◌else◌}
use Rattle.std.specs.Str.{all_ascii_digits, str_eq_ignore_ascii_case}
use Rattle.std.specs.Str.Parse.{digits_value}
use Rattle.load_requests.specs.Loads.{first_value, if_utf8}
use Rattle.load_requests.specs.declared.end_key.EndKey.{EndKey}
use Rattle.load_requests.specs.declared.end_key.EndKey.TheVariants as key

-- 1 to 19 digits are a number
unfoldable pub number_of : List ℕ → Option ℕ
number_of text = if nat_le 1 (length text) && nat_le (length text) 19 && all_ascii_digits text then Some (digits_value 10 text) else None

-- the transaction that is named: its number counts, where one is given, and else its label
abbrev pub key_by : Option (List ℕ) → Option (List ℕ) → Option EndKey
key_by (Some id) label = option_map (λ n. key.Id n) (number_of id)
key_by None label = option_map (λ name. key.Label name) (if_utf8 label)

unfoldable pub key_of : List (List ℕ × List ℕ) → Option EndKey
key_of fields = key_by (first_value (codes "txn_id") fields) (first_value (codes "label") fields)

-- whether a word says that the load is to be committed, or aborted
abbrev pub is_commit : List ℕ → Option Bool
is_commit word =
    if str_eq_ignore_ascii_case word (codes "commit") then Some true
    else if str_eq_ignore_ascii_case word (codes "abort") then Some false else None

abbrev pub operation_by : Option (List ℕ) → Option Bool
operation_by None = None
operation_by (Some word) = is_commit word

unfoldable pub operation_of : List (List ℕ × List ℕ) → Option Bool
operation_of fields = operation_by (first_value (codes "txn_operation") fields)
