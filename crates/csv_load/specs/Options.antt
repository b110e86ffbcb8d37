-- What the texts of a separator and of a ratio stand for (Apache Doris documentation, "Stream Load": `column_separator`,
-- `max_filter_ratio`; which bytes and digits are taken is this project's own).
use Rattle.std.specs.Prelude.{ℕ, ◌+◌, ◌*◌, ◌-◌, ◌^◌, ◌==◌, ◌&&◌, ◌||◌, not, nat_lt, nat_le, List, [], ◌∷◌, Bool, Option, Some, None, if◌then◌else◌, length}
use Rattle.std.specs.Option.{option_and_then}
use Rattle.std.specs.Char.{digit_value}
use Rattle.std.specs.Str.{all_ascii_digits}
use Rattle.std.specs.Str.Parse.{digits_value}

-- a visible character of ASCII that is no backslash stands for itself
abbrev pub is_visible : ℕ → Bool
is_visible b = nat_le 0x21 b && nat_le b 0x7E && not (b == 92)

-- a byte that ends no line and is no backslash
abbrev pub may_separate : ℕ → Bool
may_separate b = not (b == 10) && not (b == 13) && not (b == 92)

-- the byte that two hexadecimal digits write, where it may separate
abbrev pub hex_byte : ℕ → ℕ → Option ℕ
hex_byte high low =
    if nat_lt (digit_value high) 16 && nat_lt (digit_value low) 16 && may_separate (digit_value high * 16 + digit_value low)
    then Some (digit_value high * 16 + digit_value low) else None

-- the separator that a text stands for: a visible character, `\t`, or `\x` and two digits
abbrev pub separator_of : List ℕ → Option ℕ
separator_of (b ∷ []) = if is_visible b then Some b else None
separator_of (a ∷ b ∷ []) = if (a == 92) && (b == 116) then Some 9 else None
separator_of (a ∷ b ∷ high ∷ low ∷ []) = if (a == 92) && (b == 120) then hex_byte high low else None
separator_of other = None

-- a tab where none is given
abbrev pub separator_or_tab : Option (List ℕ) → Option ℕ
separator_or_tab None = Some 9
separator_or_tab (Some text) = separator_of text

-- one to four digits after a point, in ten-thousandths
abbrev pub part_of : List ℕ → Option ℕ
part_of digits =
    if nat_le 1 (length digits) && nat_le (length digits) 4 && all_ascii_digits digits
    then Some (digits_value 10 digits * 10 ^ (4 - length digits)) else None

-- what stands behind the whole part: nothing, or a point and digits
abbrev pub fraction_of : List ℕ → Option ℕ
fraction_of [] = Some 0
fraction_of (b ∷ digits) = if b == 46 then part_of digits else None

-- a ratio is at most one
abbrev pub at_most_one : ℕ → Option ℕ
at_most_one n = if nat_le n 10000 then Some n else None

-- the ratio that a text stands for, in ten-thousandths: `0` or `1`, and a fraction
abbrev pub ratio_of : List ℕ → Option ℕ
ratio_of [] = None
ratio_of (b ∷ rest) =
    if (b == 48) || (b == 49) then option_and_then (λ part. at_most_one ((b - 48) * 10000 + part)) (fraction_of rest) else None

-- without one, nothing may be filtered
abbrev pub ratio_or_none : Option (List ℕ) → Option ℕ
ratio_or_none None = Some 0
ratio_or_none (Some text) = ratio_of text
