-- Marks and classes of tokens: what can be told of one token alone.
use Rattle.std.specs.Prelude.{ℕ, ℤ, pos, negsuc, Bool, true, false, not, ◌&&◌, ◌||◌, ◌==◌, List, [], ◌∷◌, Option, Some, None, codes, map, if◌then◌else◌}
use Rattle.std.specs.Char.{to_ascii_lowercase}
use Rattle.std.specs.List.{list_any}
use Rattle.std.specs.Str.{bytes_eq}
use Rattle.sql_tokens.specs.declared.token.Token.{Token}
use Rattle.sql_tokens.specs.declared.token.Sign.{Sign}
use Rattle.sql_tokens.specs.declared.token.Sign.TheVariants as sign
use Rattle.sql_tokens.specs.declared.token.TokenKind.{TokenKind}
use Rattle.sql_tokens.specs.declared.token.TokenKind.TheVariants as kind

-- words are read in any case
abbrev pub lower : List ℕ → List ℕ
lower w = map to_ascii_lowercase w

abbrev pub same_word : List ℕ → List ℕ → Bool
same_word v w = bytes_eq (lower v) (lower w)

-- words that are no names, unless they stand in backquotes
abbrev pub reserved : List (List ℕ)
reserved =
    codes "add" ∷ codes "alter" ∷ codes "and" ∷ codes "asc" ∷ codes "by" ∷ codes "column" ∷ codes "create" ∷ codes "database"
    ∷ codes "default" ∷ codes "desc" ∷ codes "distributed" ∷ codes "drop" ∷ codes "exists" ∷ codes "from" ∷ codes "group"
    ∷ codes "if" ∷ codes "is" ∷ codes "key" ∷ codes "less" ∷ codes "limit" ∷ codes "modify" ∷ codes "not" ∷ codes "null"
    ∷ codes "order" ∷ codes "partition" ∷ codes "properties" ∷ codes "range" ∷ codes "select" ∷ codes "show" ∷ codes "table"
    ∷ codes "than" ∷ codes "values" ∷ codes "where" ∷ []

-- whether a word in lower case is reserved
unfoldable pub is_reserved : List ℕ → Bool
is_reserved w = list_any (λ r. bytes_eq w r) reserved

abbrev pub sign_code : Sign → ℕ
sign_code sign.Open = 0
sign_code sign.Close = 1
sign_code sign.OpenRange = 2
sign_code sign.Comma = 3
sign_code sign.End = 4
sign_code sign.Equal = 5
sign_code sign.Less = 6
sign_code sign.Greater = 7
sign_code sign.AtMost = 8
sign_code sign.AtLeast = 9
sign_code sign.Unequal = 10
sign_code sign.Star = 11

-- a sort of tokens: a word, a sign, any name, any integer, any string
pub data Mark : Type 0 where
  marked_word : List ℕ → Mark
  marked_sign : Sign → Mark
  marked_name : Mark
  marked_integer : Mark
  marked_text : Mark

abbrev pub kind_is : Mark → TokenKind → Bool
kind_is (marked_word w) (kind.Word v) = same_word v w
kind_is marked_name (kind.Word v) = not (is_reserved (lower v))
kind_is marked_name (kind.Quoted v) = true
kind_is marked_integer (kind.Int n) = true
kind_is marked_text (kind.Text v) = true
kind_is (marked_sign s) (kind.Sign r) = sign_code r == sign_code s
kind_is m k = false

abbrev pub mark_is : Mark → Token → Bool
mark_is m t = kind_is m t.kind

-- one of the marks is the token's
abbrev pub matches : List Mark → Token → Bool
matches [] t = false
matches (m ∷ []) t = mark_is m t
matches (m ∷ n ∷ ms) t = mark_is m t || matches (n ∷ ms) t

-- no token has both marks
abbrev pub marks_apart : Mark → Mark → Bool
marks_apart (marked_word a) (marked_word b) = not (same_word a b)
marks_apart (marked_word a) marked_name = is_reserved (lower a)
marks_apart marked_name (marked_word b) = is_reserved (lower b)
marks_apart (marked_sign a) (marked_sign b) = not (sign_code a == sign_code b)
marks_apart marked_name marked_name = false
marks_apart marked_integer marked_integer = false
marks_apart marked_text marked_text = false
marks_apart m n = true

abbrev pub apart_from : Mark → List Mark → Bool
apart_from m [] = true
apart_from m (n ∷ ns) = marks_apart m n && apart_from m ns

abbrev pub are_apart : List Mark → List Mark → Bool
are_apart [] ns = true
are_apart (m ∷ ms) ns = apart_from m ns && are_apart ms ns

-- ---- classes of tokens, with their values

abbrev pub whether : Bool → Option (Unit {0})
whether true = Some tt
whether false = None

-- a word of the grammar, in any case
abbrev pub a_word : List ℕ → Token → Option (Unit {0})
a_word w t = whether (mark_is (marked_word w) t)

abbrev pub a_sign : Sign → Token → Option (Unit {0})
a_sign s t = whether (mark_is (marked_sign s) t)

-- a word that is not reserved, or any name in backquotes
abbrev pub name_in : TokenKind → Option (List ℕ)
name_in (kind.Word v) = if is_reserved (lower v) then None else Some v
name_in (kind.Quoted v) = Some v
name_in k = None

abbrev pub a_name : Token → Option (List ℕ)
a_name t = name_in t.kind

abbrev pub integer_in : TokenKind → Option ℤ
integer_in (kind.Int n) = Some n
integer_in k = None

abbrev pub an_integer : Token → Option ℤ
an_integer t = integer_in t.kind

-- an integer from 0 on
abbrev pub count_of : ℤ → Option ℕ
count_of (pos n) = Some n
count_of (negsuc n) = None

abbrev pub count_in : TokenKind → Option ℕ
count_in (kind.Int n) = count_of n
count_in k = None

abbrev pub a_count : Token → Option ℕ
a_count t = count_in t.kind

abbrev pub text_in : TokenKind → Option (List ℕ)
text_in (kind.Text v) = Some v
text_in k = None

abbrev pub a_text : Token → Option (List ℕ)
a_text t = text_in t.kind
