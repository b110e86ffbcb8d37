-- A stray token is the last.
use Rattle.std.proofs.Common.{◌≡◌, ◌+◌, ◌-◌, ℕ, ℤ, pos, zero, suc, Bool, true, false, cond, Option, Some, None, List, [], ◌∷◌, ◌++◌, take, drop, length, sym, ap, refl, ◌∙◌, ◌==◌, ◌&&◌, ◌||◌, nat_lt}
use Rattle.std.specs.List.{prefix_len}
use Rattle.std.specs.Str.Parse.{digits_value}
use Rattle.dl_values.specs.Read.{is_within, minus}
use Rattle.sql_tokens.specs.Bytes.{is_blank, begins_word, is_digit, in_word, in_quotes}
use Rattle.sql_tokens.specs.Strings.{string_at}
use Rattle.sql_tokens.specs.Signs.{sign_at}
use Rattle.sql_tokens.specs.declared.token.Token.{Token}
use Rattle.sql_tokens.specs.declared.token.TokenKind.TheVariants as kind
use Rattle.sql_tokens.specs.declared.token.Sign.{Sign}
use Rattle.sql_tokens.specs.Tokens.{Lexeme, word, number, negative, quoted, string, signed, stray, integer, lexeme, tokens_behind, tokens_of}
use Rattle.sql_tokens.proofs.Fronts.{behind}

-- where no token begins, nothing is left
abbrev Ends : Lexeme → Type 0
Ends x = x.0 ≡ kind.Stray → x.1 ≡ []

integer_ends : (z : ℤ) (rest : List ℕ) → Ends (integer z, rest)
integer_ends z rest = go (is_within 9223372036854775808 z)
  where
    go : (r : Bool) → cond r (kind.Int z) kind.Beyond ≡ kind.Stray → rest ≡ []
    go true e = absurd cc
    go false e = absurd cc

negative_ends : (n : ℕ) (bs : List ℕ) → Ends (negative n bs)
negative_ends n bs = go (nat_lt 0 n)
  where
    go : (r : Bool) → Ends (cond r (integer (minus (digits_value 10 (take n bs))), drop n bs) stray)
    go true = integer_ends (minus (digits_value 10 (take n bs))) (drop n bs)
    go false = λ e. refl

quoted_ends : (n : ℕ) (bs : List ℕ) → Ends (quoted n bs)
quoted_ends n bs = go (nat_lt 0 n && nat_lt n (length bs))
  where
    go : (r : Bool) → Ends (cond r (kind.Quoted (take n bs), drop (n + 1) bs) stray)
    go true = λ e. absurd cc
    go false = λ e. refl

string_ends : (o : Option (List ℕ × List ℕ)) → Ends (string o)
string_ends (Some x) = λ e. absurd cc
string_ends None = λ e. refl

sign_ends : (o : Option (Sign × List ℕ)) → Ends (signed o)
sign_ends (Some x) = λ e. absurd cc
sign_ends None = λ e. refl

lexeme_ends : (b : ℕ) (bs : List ℕ) → Ends (lexeme b bs)
unfolding lexeme
lexeme_ends b bs = go (begins_word b) (is_digit b) (b == 45) (b == 96) ((b == 39) || (b == 34))
  where
    go : (a d m q s : Bool) → Ends (cond a (word (prefix_len in_word bs) b bs) (cond d (number (prefix_len is_digit bs) b bs) (cond m (negative (prefix_len is_digit bs) bs) (cond q (quoted (prefix_len in_quotes bs) bs) (cond s (string (string_at b bs)) (signed (sign_at b bs)))))))
    go true d m q s = λ e. absurd cc
    go false true m q s = integer_ends (pos (digits_value 10 (b ∷ take (prefix_len is_digit bs) bs))) (drop (prefix_len is_digit bs) bs)
    go false false true q s = negative_ends (prefix_len is_digit bs) bs
    go false false false true s = quoted_ends (prefix_len in_quotes bs) bs
    go false false false false true = string_ends (string_at b bs)
    go false false false false false = sign_ends (sign_at b bs)

-- behind each stray token stands none
abbrev StraysLast : List Token → Type 0
StraysLast [] = Unit {0}
StraysLast (t ∷ ts) = (t.kind ≡ kind.Stray → ts ≡ []) × StraysLast ts

strays_last : (all n : ℕ) (bs : List ℕ) → StraysLast (tokens_behind all n bs)
unfolding tokens_behind
strays_last all n [] = tt
strays_last all (suc n) (b ∷ bs) = strays_last all n bs
strays_last all zero (b ∷ bs) = go (is_blank b) (strays_last all zero bs) (strays_last all (length bs - length (lexeme b bs).1) bs)
  where
    none : (lexeme b bs).0 ≡ kind.Stray → tokens_behind all (length bs - length (lexeme b bs).1) bs ≡ []
    none e = behind all b bs ∙ ap (tokens_behind all 0) (lexeme_ends b bs e)

    go : (r : Bool) → StraysLast (tokens_behind all zero bs) → StraysLast (tokens_behind all (length bs - length (lexeme b bs).1) bs)
        → StraysLast (cond r (tokens_behind all zero bs) (record { at = all - length (b ∷ bs); kind = (lexeme b bs).0 } ∷ tokens_behind all (length bs - length (lexeme b bs).1) bs))
    go true blank more = blank
    go false blank more = (none, more)

within : (front rest ts : List Token) (t : Token) → ts ≡ front ++ t ∷ rest → StraysLast ts → t.kind ≡ kind.Stray → rest ≡ []
within [] rest [] t e h k = absurd cc
within [] rest (x ∷ ts) t e h k = let a : ts ≡ rest = cc in let b : x ≡ t = cc in sym a ∙ h.0 (ap (λ y. y.kind) b ∙ k)
within (y ∷ front) rest [] t e h k = absurd cc
within (y ∷ front) rest (x ∷ ts) t e h k = let a : ts ≡ front ++ t ∷ rest = cc in within front rest ts t a h.1 k

pub last : (text : List ℕ) (front rest : List Token) (t : Token) → tokens_of text ≡ front ++ t ∷ rest → t.kind ≡ kind.Stray → rest ≡ []
last text front rest t e k = within front rest (tokens_of text) t e (strays_last (length text) 0 text) k
