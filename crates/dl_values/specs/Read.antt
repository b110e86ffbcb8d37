-- Which cell a text stands for in a column of a type (this project's own; Apache Doris documentation, "Data Types").
use Rattle.std.specs.Prelude.{◌≡◌, ◌<◌, ℕ, ℤ, List, [], ◌∷◌, ◌==◌, ◌&&◌, Bool, true, Option, Some, None, if◌then◌else◌, length, nat_lt, nat_le, reverse, pos, negsuc, neg_ℤ}
use Rattle.std.specs.Str.{all_ascii_digits, is_utf8}
use Rattle.std.specs.Str.Parse.{digits_value}
use Rattle.std.specs.Option.{option_map}
use Rattle.dl_values.specs.Days.{day_of}
use Rattle.dl_values.specs.declared.cell.Cell.{Cell}
use Rattle.dl_values.specs.declared.cell.Cell.TheVariants as cell
use Rattle.dl_values.specs.declared.col_type.ColType.{ColType}
use Rattle.dl_values.specs.declared.col_type.ColType.TheVariants as kind

-- a text without the blanks at its start
unfoldable pub strip_front : List ℕ → List ℕ
strip_front [] = []
strip_front (c ∷ cs) = if c == 32 then strip_front cs else c ∷ cs

-- and without those at its end
unfoldable pub strip_back : List ℕ → List ℕ
strip_back cs = reverse (strip_front (reverse cs))

abbrev pub without_blanks : List ℕ → List ℕ
without_blanks cs = strip_back (strip_front cs)

-- one or more digits spell a number
pub record Spells (ds : List ℕ) (n : ℕ) : Type 0 where
  pub some : 0 < length ds
  pub digits : all_ascii_digits ds ≡ true
  pub value : n ≡ digits_value 10 ds

-- a number is at least -m and below m
abbrev pub is_within : ℕ → ℤ → Bool
is_within m (pos n) = nat_lt n m
is_within m (negsuc n) = nat_lt n m

-- the number of one or more digits behind a sign, where 64 bits hold it
unfoldable pub signed_number : (ℕ → ℤ) → List ℕ → Option ℤ
signed_number sign ds = if nat_lt 0 (length ds) && all_ascii_digits ds && is_within 9223372036854775808 (sign (digits_value 10 ds)) then Some (sign (digits_value 10 ds)) else None

abbrev pub minus : ℕ → ℤ
minus n = neg_ℤ (pos n)

-- the number of a text without blanks: one or more digits, with a sign before them or without
abbrev pub number_of : List ℕ → Option ℤ
number_of [] = None
number_of (c ∷ cs) = if c == 45 then signed_number minus cs else if c == 43 then signed_number pos cs else signed_number pos (c ∷ cs)

-- the integer of a text, where it is at least -m and below m
abbrev pub int_below : ℕ → Option ℤ → Option Cell
int_below m None = None
int_below m (Some z) = if is_within m z then Some (cell.Int z) else None

-- the text itself, where it is UTF-8 and has at most m bytes
abbrev pub text_cell : ℕ → List ℕ → Option Cell
text_cell m cs = if is_utf8 cs && nat_le (length cs) m then Some (cell.Text cs) else None

-- the cell of a text in a column of this type, if there is one
abbrev pub read : ColType → List ℕ → Option Cell
read kind.TinyInt cs = int_below 128 (number_of (without_blanks cs))
read kind.SmallInt cs = int_below 32768 (number_of (without_blanks cs))
read kind.Int cs = int_below 2147483648 (number_of (without_blanks cs))
read kind.BigInt cs = int_below 9223372036854775808 (number_of (without_blanks cs))
read kind.Date cs = option_map cell.Day (day_of (without_blanks cs))
read (kind.Varchar m) cs = text_cell m cs
