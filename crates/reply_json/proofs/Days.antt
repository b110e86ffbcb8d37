-- The text of a day is ASCII, so it is a JSON string as it stands.
use Rattle.std.proofs.Common.{◌≡◌, ◌<◌, ◌+◌, ◌/◌, ◌%◌, ℕ, zero, suc, List, ◌∷◌, ◌++◌, arith}
use Rattle.std.specs.Str.{IsAscii}
use Rattle.std.specs.Str.Lossy.{utf8_lossy}
use Rattle.std.proofs.lemmas.Nat.{mod_below}
use Rattle.std.proofs.lemmas.Str.{IsAscii-append, IsUtf8-from_ascii, utf8_lossy-IsUtf8}
use Rattle.dl_values.specs.Days.{two_digits, day_text}

digit : (n : ℕ) → 48 + n % 10 < 128
digit n = omega (arith, mod_below n 10 (omega arith))

two : (n : ℕ) → IsAscii (two_digits n)
two n zero = digit (n / 10)
two n (suc zero) = digit n
two n (suc (suc i)) = omega arith

two_before : (n : ℕ) (rest : List ℕ) → IsAscii rest → IsAscii (two_digits n ++ rest)
two_before n rest h = IsAscii-append (two_digits n) rest (two n) h

dash_before : (rest : List ℕ) → IsAscii rest → IsAscii (45 ∷ rest)
dash_before rest h zero = omega arith
dash_before rest h (suc i) = h i

day_is_ascii : (day : ℕ) → IsAscii (day_text day)
unfolding day_text
day_is_ascii day =
    let days = two_digits day in
    let months = two_digits (day / 100) ++ 45 ∷ days in
    let years = two_digits (day / 10000) ++ 45 ∷ months in
    two_before (day / 1000000) years
    (two_before (day / 10000) (45 ∷ months) (dash_before months (two_before (day / 100) (45 ∷ days) (dash_before days (two day)))))

pub day_stands : (day : ℕ) → utf8_lossy (day_text day) ≡ day_text day
day_stands day = utf8_lossy-IsUtf8 (day_text day) (IsUtf8-from_ascii (day_text day) (day_is_ascii day))
