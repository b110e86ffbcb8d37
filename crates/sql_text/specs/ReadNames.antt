-- Reading names, literals, types and defaults.
use Rattle.std.specs.Prelude.{ℕ, Bool, true, false, List, [], ◌∷◌, Option, codes}
use Rattle.dl_values.specs.declared.agg_kind.AggKind.{AggKind}
use Rattle.dl_values.specs.declared.agg_kind.AggKind.TheVariants as agg
use Rattle.sql_tokens.specs.declared.token.Sign.TheVariants as sign
use Rattle.sql_text.specs.declared.query.Literal.{Literal}
use Rattle.sql_text.specs.declared.query.Literal.TheVariants as literal
use Rattle.sql_text.specs.declared.table_def.ColumnType.{ColumnType}
use Rattle.sql_text.specs.declared.table_def.ColumnType.TheVariants as type
use Rattle.sql_text.specs.declared.table_def.DefaultText.{DefaultText}
use Rattle.sql_text.specs.declared.table_def.DefaultText.TheVariants as default
use Rattle.sql_grammar.specs.Marks.{Mark, marked_word, marked_integer, matches}
use Rattle.sql_grammar.specs.Lang.{or_else}
use Rattle.sql_grammar.specs.Reading.{Reader, is, either, maybe, one, word_at, sign_at, name_at, integer_at, count_at, text_at, means_at, commas_at, ◌>>=◌, ◌>>◌}

-- the word with its value, or else another reader
abbrev pub word_or : {A : Type 0} → List ℕ → A → Reader A → Reader A
word_or w x other = either (one (marked_word w)) (means_at w x) other

unfoldable pub names_at : Reader (List (List ℕ))
names_at = do
  sign_at sign.Open
  names ← commas_at name_at
  sign_at sign.Close
  is names

unfoldable pub literal_at : Reader Literal
literal_at = either (one marked_integer) (integer_at >>= λ n. is (literal.Int n)) (text_at >>= λ t. is (literal.Text t))

unfoldable pub varchar_at : Reader ColumnType
varchar_at = do
  word_at (codes "VARCHAR")
  sign_at sign.Open
  n ← count_at
  sign_at sign.Close
  is (type.Varchar n)

unfoldable pub type_at : Reader ColumnType
type_at =
    word_or (codes "TINYINT") type.TinyInt
    (word_or (codes "SMALLINT") type.SmallInt
    (word_or (codes "INT") type.Int
    (word_or (codes "BIGINT") type.BigInt
    (word_or (codes "DATE") type.Date varchar_at))))

unfoldable pub agg_at : Reader AggKind
agg_at =
    word_or (codes "SUM") agg.Sum
    (word_or (codes "MIN") agg.Min
    (word_or (codes "MAX") agg.Max
    (word_or (codes "REPLACE") agg.Replace (means_at (codes "REPLACE_IF_NOT_NULL") agg.ReplaceIfNotNull))))

abbrev pub agg_first : List Mark
agg_first = marked_word (codes "SUM") ∷ marked_word (codes "MIN") ∷ marked_word (codes "MAX") ∷ marked_word (codes "REPLACE") ∷ marked_word (codes "REPLACE_IF_NOT_NULL") ∷ []

unfoldable pub maybe_agg_at : Reader (Option AggKind)
maybe_agg_at = maybe (matches agg_first) agg_at

abbrev pub null_first : List Mark
null_first = marked_word (codes "NULL") ∷ marked_word (codes "NOT") ∷ []

unfoldable pub nullable_at : Reader Bool
nullable_at = do
  found ← maybe (matches null_first) (word_or (codes "NULL") true (word_at (codes "NOT") >> means_at (codes "NULL") false))
  is (or_else true found)

unfoldable pub default_text_at : Reader DefaultText
default_text_at = word_or (codes "NULL") default.Null (literal_at >>= λ l. is (default.Value l))

unfoldable pub default_at : Reader (Option DefaultText)
default_at = maybe (one (marked_word (codes "DEFAULT"))) (word_at (codes "DEFAULT") >> default_text_at)

unfoldable pub comment_at : Reader (Unit {0})
comment_at = do
  maybe (one (marked_word (codes "COMMENT"))) (word_at (codes "COMMENT") >> text_at)
  is tt
