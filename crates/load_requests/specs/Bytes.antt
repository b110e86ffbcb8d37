-- Classes of bytes.
use Rattle.std.specs.Prelude.{ℕ, ◌==◌, ◌&&◌, ◌||◌, Bool, not, nat_le}
use Rattle.load_requests.specs.declared.bytes.Class.{Class}
use Rattle.load_requests.specs.declared.bytes.Class.TheVariants as class

-- space, tab, LF and CR
abbrev pub is_blank : ℕ → Bool
is_blank b = (b == 32) || (b == 9) || (b == 10) || (b == 13)

-- an ASCII letter or `_`
abbrev pub begins_word : ℕ → Bool
begins_word b = (nat_le 65 b && nat_le b 90) || (nat_le 97 b && nat_le b 122) || (b == 95)

abbrev pub is_digit : ℕ → Bool
is_digit b = nat_le 48 b && nat_le b 57

abbrev pub in_word : ℕ → Bool
in_word b = begins_word b || is_digit b

-- no backquote
abbrev pub in_quotes : ℕ → Bool
in_quotes b = not (b == 96)

-- no `?`
abbrev pub in_path : ℕ → Bool
in_path b = not (b == 63)

abbrev pub is_slash : ℕ → Bool
is_slash b = b == 47

abbrev pub is_of : Class → ℕ → Bool
is_of class.Blank = is_blank
is_of class.Word = in_word
is_of class.Digit = is_digit
is_of class.Quoted = in_quotes
is_of class.Path = in_path
is_of class.Part = λ b. not (is_slash b)
