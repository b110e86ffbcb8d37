-- Names, literals, types and defaults, as each part of the grammar has them (this project's own, after the SQL of the
-- Apache Doris documentation).
use Rattle.std.specs.Prelude.{ℕ, Bool, true, false, List, Option, codes}
use Rattle.dl_values.specs.declared.agg_kind.AggKind.{AggKind}
use Rattle.dl_values.specs.declared.agg_kind.AggKind.TheVariants as agg
use Rattle.sql_tokens.specs.declared.token.Sign.TheVariants as sign
use Rattle.sql_text.specs.declared.query.Literal.{Literal}
use Rattle.sql_text.specs.declared.query.Literal.TheVariants as literal
use Rattle.sql_text.specs.declared.table_def.ColumnType.{ColumnType}
use Rattle.sql_text.specs.declared.table_def.ColumnType.TheVariants as type
use Rattle.sql_text.specs.declared.table_def.DefaultText.{DefaultText}
use Rattle.sql_text.specs.declared.table_def.DefaultText.TheVariants as default
use Rattle.sql_grammar.specs.Marks.{a_name, an_integer, a_count, a_text}
use Rattle.sql_grammar.specs.Lang.{Lang, Tok, Is, Or, Maybe, Commas, Word, Sign_, Means, or_else, ◌>>=◌, ◌>>◌}

-- a word that is not reserved, or any name in backquotes
unfoldable pub Name : Lang (List ℕ)
Name = Tok a_name

-- an integer from 0 on
unfoldable pub Count : Lang ℕ
Count = Tok a_count

unfoldable pub String : Lang (List ℕ)
String = Tok a_text

-- names := '(' name {',' name} ')'
unfoldable pub Names : Lang (List (List ℕ))
Names = do
  Sign_ sign.Open
  names ← Commas Name
  Sign_ sign.Close
  Is names

-- literal := integer | string
unfoldable pub Literal_ : Lang Literal
Literal_ = Or (Tok an_integer >>= λ n. Is (literal.Int n)) (String >>= λ t. Is (literal.Text t))

-- type := TINYINT | SMALLINT | INT | BIGINT | DATE | VARCHAR '(' integer ')'
unfoldable pub Varchar : Lang ColumnType
Varchar = do
  Word (codes "VARCHAR")
  Sign_ sign.Open
  n ← Count
  Sign_ sign.Close
  Is (type.Varchar n)

unfoldable pub Type_ : Lang ColumnType
Type_ =
    Or (Means (codes "TINYINT") type.TinyInt)
    (Or (Means (codes "SMALLINT") type.SmallInt)
    (Or (Means (codes "INT") type.Int)
    (Or (Means (codes "BIGINT") type.BigInt)
    (Or (Means (codes "DATE") type.Date) Varchar))))

-- agg := SUM | MIN | MAX | REPLACE | REPLACE_IF_NOT_NULL
unfoldable pub Agg : Lang AggKind
Agg =
    Or (Means (codes "SUM") agg.Sum)
    (Or (Means (codes "MIN") agg.Min)
    (Or (Means (codes "MAX") agg.Max)
    (Or (Means (codes "REPLACE") agg.Replace) (Means (codes "REPLACE_IF_NOT_NULL") agg.ReplaceIfNotNull))))

-- [NULL | NOT NULL]
unfoldable pub Nullable : Lang Bool
Nullable = do
  found ← Maybe (Or (Means (codes "NULL") true) (Word (codes "NOT") >> Means (codes "NULL") false))
  Is (or_else true found)

-- [DEFAULT (literal | NULL)]
unfoldable pub Default : Lang (Option DefaultText)
Default = Maybe (Word (codes "DEFAULT") >> Or (Means (codes "NULL") default.Null) (Literal_ >>= λ l. Is (default.Value l)))

-- [COMMENT string], which is dropped
unfoldable pub Comment : Lang (Unit {0})
Comment = do
  Maybe (Word (codes "COMMENT") >> String)
  Is tt
