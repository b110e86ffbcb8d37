-- The types and the roles that words name, in capitals, exactly, with no blanks (this project's own; the types are those of
-- the Apache Doris documentation, "Data Types").
use Rattle.std.specs.Prelude.{ℕ, ◌-◌, Bool, ◌&&◌, min, nat_le, List, Option, Some, None, codes, if◌then◌else◌, take, drop, length, option_map}
use Rattle.std.specs.Option.{option_and_then}
use Rattle.std.specs.Str.{all_ascii_digits, bytes_eq}
use Rattle.std.specs.Str.Parse.{digits_value}
use Rattle.dl_values.specs.declared.agg_kind.AggKind.TheVariants as agg
use Rattle.dl_values.specs.declared.col_type.ColType.{ColType}
use Rattle.dl_values.specs.declared.col_type.ColType.TheVariants as kind
use Rattle.schema_models.specs.declared.role.Role.{Role}
use Rattle.schema_models.specs.declared.role.Role.TheVariants as role

-- what stands behind this front of a text, where the text begins with it
abbrev pub behind : List ℕ → List ℕ → Option (List ℕ)
behind front text = if bytes_eq (take (length front) text) front then Some (drop (length front) text) else None

-- what stands before this end of a text, where the text ends with it
abbrev pub before : List ℕ → List ℕ → Option (List ℕ)
before back text = if bytes_eq (drop (length text - length back) text) back then Some (take (length text - length back) text) else None

-- 1 to 19 digits
abbrev pub is_length : List ℕ → Bool
is_length digits = nat_le 1 (length digits) && nat_le (length digits) 19 && all_ascii_digits digits

-- the length that digits write; a number that 32 bits do not hold counts as the greatest that they do, which is no length
-- of a VARCHAR either
abbrev pub length_of : List ℕ → Option ℕ
length_of digits = if is_length digits then Some (min (digits_value 10 digits) 4294967295) else None

-- `VARCHAR(M)`
unfoldable pub varchar_of : List ℕ → Option ColType
varchar_of word = option_map kind.Varchar (option_and_then length_of (option_and_then (before (codes ")")) (behind (codes "VARCHAR(") word)))

abbrev pub type_of : List ℕ → Option ColType
type_of word =
    if bytes_eq word (codes "TINYINT") then Some kind.TinyInt
    else if bytes_eq word (codes "SMALLINT") then Some kind.SmallInt
    else if bytes_eq word (codes "INT") then Some kind.Int
    else if bytes_eq word (codes "BIGINT") then Some kind.BigInt
    else if bytes_eq word (codes "DATE") then Some kind.Date
    else varchar_of word

-- a key, a value as it is, or a value that merges by a kind
abbrev pub role_of : List ℕ → Option Role
role_of word =
    if bytes_eq word (codes "KEY") then Some role.Key
    else if bytes_eq word (codes "VALUE") then Some role.Plain
    else if bytes_eq word (codes "SUM") then Some (role.Agg agg.Sum)
    else if bytes_eq word (codes "MIN") then Some (role.Agg agg.Min)
    else if bytes_eq word (codes "MAX") then Some (role.Agg agg.Max)
    else if bytes_eq word (codes "REPLACE") then Some (role.Agg agg.Replace)
    else if bytes_eq word (codes "REPLACE_IF_NOT_NULL") then Some (role.Agg agg.ReplaceIfNotNull)
    else None
