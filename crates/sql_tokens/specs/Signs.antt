-- The signs of statements.
use Rattle.std.specs.Prelude.{ℕ, ◌==◌, ◌&&◌, List, [], ◌∷◌, Option, Some, None, if◌then◌else◌}
use Rattle.sql_tokens.specs.declared.token.Sign.{Sign}
use Rattle.sql_tokens.specs.declared.token.Sign.TheVariants as sign

-- the sign that is one byte: `( ) [ , ; = < > *`
unfoldable pub sign_of : ℕ → Option Sign
sign_of b =
    if b == 40 then Some sign.Open
    else if b == 41 then Some sign.Close
    else if b == 91 then Some sign.OpenRange
    else if b == 44 then Some sign.Comma
    else if b == 59 then Some sign.End
    else if b == 61 then Some sign.Equal
    else if b == 60 then Some sign.Less
    else if b == 62 then Some sign.Greater
    else if b == 42 then Some sign.Star
    else None

-- the sign that is two bytes: `<= <> >= !=`
unfoldable pub long_sign_of : ℕ → ℕ → Option Sign
long_sign_of b c =
    if (b == 60) && (c == 61) then Some sign.AtMost
    else if (b == 60) && (c == 62) then Some sign.Unequal
    else if (b == 62) && (c == 61) then Some sign.AtLeast
    else if (b == 33) && (c == 61) then Some sign.Unequal
    else None

-- a sign, where there is one, and what stands behind it
abbrev pub followed : Option Sign → List ℕ → Option (Sign × List ℕ)
followed None bs = None
followed (Some s) bs = Some (s, bs)

-- the first of two, where there is one, or else the second
abbrev pub or_else : Option (Sign × List ℕ) → Option (Sign × List ℕ) → Option (Sign × List ℕ)
or_else None other = other
or_else (Some x) other = Some x

-- a sign of two bytes, and what stands behind it
abbrev pub long_sign_at : ℕ → List ℕ → Option (Sign × List ℕ)
long_sign_at b [] = None
long_sign_at b (c ∷ cs) = followed (long_sign_of b c) cs

-- the longest sign that begins with a byte, and what stands behind it
abbrev pub sign_at : ℕ → List ℕ → Option (Sign × List ℕ)
sign_at b bs = or_else (long_sign_at b bs) (followed (sign_of b) bs)
