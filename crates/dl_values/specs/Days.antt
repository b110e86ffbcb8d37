-- The days of the calendar (the proleptic Gregorian one, of the years 0 to 9999), and their texts `YYYY-MM-DD`.
use Rattle.std.specs.Prelude.{ℕ, ◌+◌, ◌-◌, ◌*◌, ◌/◌, ◌%◌, Bool, not, ◌&&◌, ◌||◌, ◌==◌, nat_le, if◌then◌else◌, List, [], ◌∷◌, ◌++◌, Option, Some, None}
use Rattle.std.specs.List.{list_all}

abbrev pub is_leap : ℕ → Bool
is_leap y = (y % 4 == 0) && (not (y % 100 == 0) || (y % 400 == 0))

abbrev pub month_days : ℕ → ℕ → ℕ
month_days y m = if m == 2 then (if is_leap y then 29 else 28) else (if (m == 4) || (m == 6) || (m == 9) || (m == 11) then 30 else 31)

-- the calendar has that day
abbrev pub is_day : ℕ → ℕ → ℕ → Bool
is_day y m d = nat_le 1 m && nat_le m 12 && nat_le 1 d && nat_le d (month_days y m)

abbrev pub is_digit : ℕ → Bool
is_digit b = nat_le 48 b && nat_le b 57

-- the number of two digits
abbrev pub two : ℕ → ℕ → ℕ
two a b = (a - 48) * 10 + (b - 48)

-- the day of a text `YYYY-MM-DD`, as `year * 10000 + month * 100 + day`
abbrev pub day_of : List ℕ → Option ℕ
day_of (a ∷ b ∷ c ∷ d ∷ p ∷ e ∷ f ∷ q ∷ g ∷ h ∷ []) =
    let y = two a b * 100 + two c d in
    if list_all is_digit (a ∷ b ∷ c ∷ d ∷ e ∷ f ∷ g ∷ h ∷ []) && (p == 45) && (q == 45) && is_day y (two e f) (two g h)
    then Some (y * 10000 + two e f * 100 + two g h) else None
day_of _ = None

-- two digits of a number below 100
abbrev pub two_digits : ℕ → List ℕ
two_digits n = (48 + n / 10 % 10) ∷ (48 + n % 10) ∷ []

-- the text of a day
unfoldable pub day_text : ℕ → List ℕ
day_text day = two_digits (day / 1000000) ++ two_digits (day / 10000) ++ 45 ∷ [] ++ two_digits (day / 100) ++ 45 ∷ [] ++ two_digits day
