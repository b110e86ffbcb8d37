-- The tokens of a statement (this project's own, after the SQL of the Apache Doris documentation). The longest token counts.
use Rattle.std.specs.Prelude.{ℕ, ℤ, pos, ◌+◌, ◌-◌, ◌==◌, ◌&&◌, ◌||◌, zero, suc, nat_lt, List, [], ◌∷◌, take, drop, length, Option, Some, None, if◌then◌else◌}
use Rattle.std.specs.List.{prefix_len}
use Rattle.std.specs.Str.Parse.{digits_value}
use Rattle.dl_values.specs.Read.{is_within, minus}
use Rattle.sql_tokens.specs.Bytes.{is_blank, begins_word, in_word, is_digit, in_quotes}
use Rattle.sql_tokens.specs.Signs.{sign_at}
use Rattle.sql_tokens.specs.Strings.{string_at}
use Rattle.sql_tokens.specs.declared.token.Token.{Token}
use Rattle.sql_tokens.specs.declared.token.Sign.{Sign}
use Rattle.sql_tokens.specs.declared.token.TokenKind.{TokenKind}
use Rattle.sql_tokens.specs.declared.token.TokenKind.TheVariants as kind

-- what a token is, and the bytes behind it
abbrev pub Lexeme : Type 0
Lexeme = TokenKind × List ℕ

-- no token begins here, and nothing is read behind it
abbrev pub stray : Lexeme
stray = (kind.Stray, [])

-- a word: a letter or `_`, then letters, digits and `_`
abbrev pub word : ℕ → ℕ → List ℕ → Lexeme
word n b bs = (kind.Word (b ∷ take n bs), drop n bs)

-- an integer, where 64 signed bits hold it
abbrev pub integer : ℤ → TokenKind
integer z = if is_within 9223372036854775808 z then kind.Int z else kind.Beyond

-- a digit, then digits
abbrev pub number : ℕ → ℕ → List ℕ → Lexeme
number n b bs = (integer (pos (digits_value 10 (b ∷ take n bs))), drop n bs)

-- behind a minus: one or more digits
abbrev pub negative : ℕ → List ℕ → Lexeme
negative n bs = if nat_lt 0 n then (integer (minus (digits_value 10 (take n bs))), drop n bs) else stray

-- behind a backquote: one or more bytes other than it, and then it
abbrev pub quoted : ℕ → List ℕ → Lexeme
quoted n bs = if nat_lt 0 n && nat_lt n (length bs) then (kind.Quoted (take n bs), drop (n + 1) bs) else stray

-- a string, where it is closed
abbrev pub string : Option (List ℕ × List ℕ) → Lexeme
string (Some x) = (kind.Text x.0, x.1)
string None = stray

-- a sign, where there is one
abbrev pub signed : Option (Sign × List ℕ) → Lexeme
signed (Some x) = (kind.Sign x.0, x.1)
signed None = stray

-- the longest token that begins with a byte which is no blank
unfoldable pub lexeme : ℕ → List ℕ → Lexeme
lexeme b bs =
    if begins_word b then word (prefix_len in_word bs) b bs
    else if is_digit b then number (prefix_len is_digit bs) b bs
    else if b == 45 then negative (prefix_len is_digit bs) bs
    else if b == 96 then quoted (prefix_len in_quotes bs) bs
    else if (b == 39) || (b == 34) then string (string_at b bs)
    else signed (sign_at b bs)

-- the tokens of what is left of a text of so many bytes, behind so many bytes more of it
unfoldable pub tokens_behind : ℕ → ℕ → List ℕ → List Token
tokens_behind all n [] = []
tokens_behind all (suc n) (b ∷ bs) = tokens_behind all n bs
tokens_behind all zero (b ∷ bs) =
    if is_blank b then tokens_behind all zero bs
    else record { at = all - length (b ∷ bs); kind = (lexeme b bs).0 } ∷ tokens_behind all (length bs - length (lexeme b bs).1) bs

-- the tokens of a text
abbrev pub tokens_of : List ℕ → List Token
tokens_of text = tokens_behind (length text) 0 text

-- the first token of a text that begins with no blank, and what stands behind it
abbrev pub front : List ℕ → Option Lexeme
front [] = None
front (b ∷ bs) = Some (lexeme b bs)
