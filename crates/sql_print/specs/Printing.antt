-- How tokens are written (this project's own): words as they are, names in backquotes, integers in decimal, strings in `'`, and
-- one blank between two tokens except before `,` and `)` and after `(`.
use Rattle.std.specs.Prelude.{ℕ, ◌==◌, ◌||◌, Bool, true, false, List, [], ◌∷◌, ◌++◌, codes, if◌then◌else◌}
use Rattle.std.specs.Fmt.{signed_decimal}
use Rattle.sql_tokens.specs.declared.token.Sign.{Sign}
use Rattle.sql_tokens.specs.declared.token.Sign.TheVariants as sign
use Rattle.sql_tokens.specs.declared.token.TokenKind.{TokenKind}
use Rattle.sql_tokens.specs.declared.token.TokenKind.TheVariants as kind

abbrev pub sign_text : Sign → List ℕ
sign_text sign.Open = codes "("
sign_text sign.Close = codes ")"
sign_text sign.OpenRange = codes "["
sign_text sign.Comma = codes ","
sign_text sign.End = codes ";"
sign_text sign.Equal = codes "="
sign_text sign.Less = codes "<"
sign_text sign.Greater = codes ">"
sign_text sign.AtMost = codes "<="
sign_text sign.AtLeast = codes ">="
sign_text sign.Unequal = codes "<>"
sign_text sign.Star = codes "*"

-- a byte of a string: `\` stands before `'` and `\`, and LF, tab and CR are `\n`, `\t` and `\r`
abbrev pub escape : ℕ → List ℕ
escape b =
    if b == 39 then 92 ∷ 39 ∷ []
    else if b == 92 then 92 ∷ 92 ∷ []
    else if b == 10 then 92 ∷ 110 ∷ []
    else if b == 9 then 92 ∷ 116 ∷ []
    else if b == 13 then 92 ∷ 114 ∷ []
    else b ∷ []

unfoldable pub escapes : List ℕ → List ℕ
escapes [] = []
escapes (b ∷ bs) = escape b ++ escapes bs

-- the text of a token; what begins no token, or is beyond 64 bits, has none
abbrev pub spelled : TokenKind → List ℕ
spelled (kind.Word word) = word
spelled (kind.Quoted name) = codes "`" ++ (name ++ codes "`")
spelled (kind.Int z) = signed_decimal z
spelled (kind.Text text) = codes "'" ++ (escapes text ++ codes "'")
spelled (kind.Sign s) = sign_text s
spelled kind.Beyond = []
spelled kind.Stray = []

-- no blank stands after it
abbrev pub is_open : TokenKind → Bool
is_open (kind.Sign sign.Open) = true
is_open _ = false

-- no blank stands before it
abbrev pub leans : TokenKind → Bool
leans (kind.Sign sign.Comma) = true
leans (kind.Sign sign.Close) = true
leans _ = false

-- what stands before a token, by whether it takes no blank after what is written
abbrev pub gap : Bool → TokenKind → List ℕ
gap glued t = if glued || leans t then [] else 32 ∷ []

-- the text of tokens, by the same
unfoldable pub behind : Bool → List TokenKind → List ℕ
behind glued [] = []
behind glued (t ∷ ts) = gap glued t ++ (spelled t ++ behind (is_open t) ts)

-- the text of tokens
abbrev pub printed : List TokenKind → List ℕ
printed ts = behind true ts
