-- The tokens of parts that many statements have.
use Rattle.std.specs.Prelude.{ℕ, pos, Bool, true, false, List, [], ◌∷◌, ◌++◌, Option, Some, None, codes}
use Rattle.dl_values.specs.declared.agg_kind.AggKind.{AggKind}
use Rattle.dl_values.specs.declared.agg_kind.AggKind.TheVariants as agg
use Rattle.sql_tokens.specs.declared.token.Sign.TheVariants as sign
use Rattle.sql_tokens.specs.declared.token.TokenKind.{TokenKind}
use Rattle.sql_tokens.specs.declared.token.TokenKind.TheVariants as kind
use Rattle.sql_print.specs.declared.lists.Separator.{Separator}
use Rattle.sql_print.specs.declared.lists.Separator.TheVariants as separator
use Rattle.sql_text.specs.declared.query.Literal.{Literal}
use Rattle.sql_text.specs.declared.query.Literal.TheVariants as literal
use Rattle.sql_text.specs.declared.table_def.ColumnType.{ColumnType}
use Rattle.sql_text.specs.declared.table_def.ColumnType.TheVariants as type
use Rattle.sql_text.specs.declared.table_def.DefaultText.{DefaultText}
use Rattle.sql_text.specs.declared.table_def.DefaultText.TheVariants as default

-- ---- one part, or none, or more

unfoldable pub maybe : {A : Type 0} → (A → List TokenKind) → Option A → List TokenKind
maybe show None = []
maybe show (Some x) = show x

-- these tokens, if so
unfoldable pub when : Bool → List TokenKind → List TokenKind
when true ts = ts
when false ts = []

-- parts, with a separator before each
unfoldable pub behind_each : {A : Type 0} → TokenKind → (A → List TokenKind) → List A → List TokenKind
behind_each separator show [] = []
behind_each separator show (x ∷ xs) = (separator ∷ show x) ++ behind_each separator show xs

-- parts, with separators between them
unfoldable pub separated : {A : Type 0} → TokenKind → (A → List TokenKind) → List A → List TokenKind
separated separator show [] = []
separated separator show (x ∷ xs) = show x ++ behind_each separator show xs

abbrev pub commas : {A : Type 0} → (A → List TokenKind) → List A → List TokenKind
commas show xs = separated (kind.Sign sign.Comma) show xs

-- ---- names, literals, types and defaults

abbrev pub keyword : List ℕ → List TokenKind
keyword word = kind.Word word ∷ []

abbrev pub name : List ℕ → List TokenKind
name n = kind.Quoted n ∷ []

abbrev pub count : ℕ → List TokenKind
count n = kind.Int (pos n) ∷ []

abbrev pub string : List ℕ → List TokenKind
string text = kind.Text text ∷ []

-- '(' name {',' name} ')'
unfoldable pub names : List (List ℕ) → List TokenKind
names ns = kind.Sign sign.Open ∷ (commas name ns ++ (kind.Sign sign.Close ∷ []))

unfoldable pub literal_tokens : Literal → List TokenKind
literal_tokens (literal.Int n) = kind.Int n ∷ []
literal_tokens (literal.Text text) = kind.Text text ∷ []

unfoldable pub type_tokens : ColumnType → List TokenKind
type_tokens type.TinyInt = keyword (codes "TINYINT")
type_tokens type.SmallInt = keyword (codes "SMALLINT")
type_tokens type.Int = keyword (codes "INT")
type_tokens type.BigInt = keyword (codes "BIGINT")
type_tokens type.Date = keyword (codes "DATE")
type_tokens (type.Varchar n) = kind.Word (codes "VARCHAR") ∷ kind.Sign sign.Open ∷ kind.Int (pos n) ∷ kind.Sign sign.Close ∷ []

unfoldable pub agg_word : AggKind → List ℕ
agg_word agg.Sum = codes "SUM"
agg_word agg.Min = codes "MIN"
agg_word agg.Max = codes "MAX"
agg_word agg.Replace = codes "REPLACE"
agg_word agg.ReplaceIfNotNull = codes "REPLACE_IF_NOT_NULL"

unfoldable pub agg_tokens : AggKind → List TokenKind
agg_tokens a = keyword (agg_word a)

-- NULL is not written
unfoldable pub nullable_tokens : Bool → List TokenKind
nullable_tokens true = []
nullable_tokens false = kind.Word (codes "NOT") ∷ kind.Word (codes "NULL") ∷ []

unfoldable pub default_tokens : DefaultText → List TokenKind
default_tokens default.Null = kind.Word (codes "DEFAULT") ∷ kind.Word (codes "NULL") ∷ []
default_tokens (default.Value l) = kind.Word (codes "DEFAULT") ∷ literal_tokens l

-- ---- separators

abbrev pub separator_token : Separator → TokenKind
separator_token separator.Comma = kind.Sign sign.Comma
separator_token separator.And = kind.Word (codes "AND")
