-- Names of columns (this project's own): 1 to 64 bytes, an ASCII letter or `_`, and then letters, digits and `_`.
use Rattle.std.specs.Prelude.{ℕ, Bool, false, ◌&&◌, ◌||◌, ◌==◌, nat_le, List, [], ◌∷◌, length}
use Rattle.std.specs.List.{list_all}

-- an ASCII letter
abbrev pub is_letter : ℕ → Bool
is_letter b = (nat_le 65 b && nat_le b 90) || (nat_le 97 b && nat_le b 122)

-- an ASCII digit
abbrev pub is_digit : ℕ → Bool
is_digit b = nat_le 48 b && nat_le b 57

-- a letter or `_`, as a name begins
abbrev pub begins_name : ℕ → Bool
begins_name b = is_letter b || (b == 95)

-- a letter, a digit or `_`, as a name goes on
abbrev pub continues_name : ℕ → Bool
continues_name b = begins_name b || is_digit b

abbrev pub is_name : List ℕ → Bool
is_name [] = false
is_name (b ∷ bs) = nat_le (length (b ∷ bs)) 64 && begins_name b && list_all continues_name bs
