-- The integers that are digits alone (this project's own).
use Rattle.std.specs.Prelude.{ℕ, ℤ, pos, List, ◌&&◌, Option, Some, None, if◌then◌else◌, length, nat_lt}
use Rattle.std.specs.Str.{all_ascii_digits}
use Rattle.std.specs.Str.Parse.{digits_value}
use Rattle.dl_values.specs.declared.col_type.ColType.{ColType}
use Rattle.dl_values.specs.declared.col_type.ColType.TheVariants as kind

-- the number of one to eighteen digits
unfoldable pub few_digits : List ℕ → Option ℕ
few_digits cs = if nat_lt 0 (length cs) && nat_lt (length cs) 19 && all_ascii_digits cs then Some (digits_value 10 cs) else None

-- the integers of a type are below this; the other types have none
abbrev pub int_limit : ColType → ℕ
int_limit kind.TinyInt = 128
int_limit kind.SmallInt = 32768
int_limit kind.Int = 2147483648
int_limit kind.BigInt = 9223372036854775808
int_limit kind.Date = 0
int_limit (kind.Varchar m) = 0

-- a number, where it is below m
abbrev pub below : ℕ → Option ℕ → Option ℤ
below m None = None
below m (Some n) = if nat_lt n m then Some (pos n) else None

-- the integer of one to eighteen digits and nothing else, where the type has it
abbrev pub plain_int : ColType → List ℕ → Option ℤ
plain_int kind cs = below (int_limit kind) (few_digits cs)
