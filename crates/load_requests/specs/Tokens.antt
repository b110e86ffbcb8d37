-- The tokens of a statement (this project's own, after the SQL of the Apache Doris documentation). The longest token counts.
-- Blanks are space, tab, LF and CR. A byte that begins no word, name or number stands as a token alone: a sign, or something
-- that no statement has.
use Rattle.std.specs.Prelude.{ℕ, zero, suc, ◌+◌, ◌==◌, ◌&&◌, nat_lt, List, [], ◌∷◌, take, drop, length, Option, Some, None, if◌then◌else◌}
use Rattle.std.specs.List.{prefix_len}
use Rattle.load_requests.specs.Bytes.{is_blank, begins_word, in_word, is_digit, in_quotes}
use Rattle.load_requests.specs.declared.token.Kind.{Kind}
use Rattle.load_requests.specs.declared.token.Kind.TheVariants as kind

-- a token: its kind and its bytes, those of a name in backquotes without them
abbrev pub Token : Type 0
Token = Kind × List ℕ

-- a token that a byte begins: its kind, its bytes, and how many of the bytes behind the first are of it
abbrev pub Lexeme : Type 0
Lexeme = Kind × List ℕ × ℕ

-- the first byte and so many behind it
abbrev pub run : Kind → ℕ → ℕ → List ℕ → Lexeme
run k n b bs = (k, b ∷ take n bs, n)

-- behind a backquote: so many bytes are no backquote, and then one is
abbrev pub quoted : ℕ → ℕ → List ℕ → Lexeme
quoted n b bs = if nat_lt 0 n && nat_lt n (length bs) then (kind.Quoted, take n bs, n + 1) else run kind.Plain 0 b bs

-- the longest token that begins with a byte which is no blank
unfoldable pub lexeme : ℕ → List ℕ → Lexeme
lexeme b bs =
    if begins_word b then run kind.Plain (prefix_len in_word bs) b bs
    else if is_digit b then run kind.Number (prefix_len is_digit bs) b bs
    else if b == 96 then quoted (prefix_len in_quotes bs) b bs
    else run kind.Plain 0 b bs

-- the tokens behind so many bytes of a text
unfoldable pub tokens_behind : ℕ → List ℕ → List Token
tokens_behind n [] = []
tokens_behind (suc n) (b ∷ bs) = tokens_behind n bs
tokens_behind zero (b ∷ bs) =
    if is_blank b then tokens_behind zero bs
    else ((lexeme b bs).0, (lexeme b bs).1) ∷ tokens_behind (lexeme b bs).2 bs

-- the tokens of a text
abbrev pub tokens_of : List ℕ → List Token
tokens_of text = tokens_behind 0 text

-- the first token of a text that begins with no blank, and what stands behind it
abbrev pub front : List ℕ → Option (Kind × List ℕ × List ℕ)
front [] = None
front (b ∷ bs) = Some ((lexeme b bs).0, (lexeme b bs).1, drop (lexeme b bs).2 bs)
