-- Reading CREATE and DROP.
use Rattle.std.specs.Prelude.{ℕ, Bool, List, [], ◌∷◌, Option, Some, None, is_some, codes}
use Rattle.schema_models.specs.declared.model.Model.{Model}
use Rattle.schema_models.specs.declared.model.Model.TheVariants as model
use Rattle.sql_tokens.specs.declared.token.Sign.TheVariants as sign
use Rattle.sql_text.specs.declared.stmt.Stmt.{Stmt}
use Rattle.sql_text.specs.declared.stmt.Stmt.TheVariants as stmt
use Rattle.sql_text.specs.declared.query.Literal.{Literal}
use Rattle.sql_text.specs.declared.key_clause.KeyClause.{KeyClause}
use Rattle.sql_text.specs.declared.part.Part.{Part}
use Rattle.sql_text.specs.declared.part.PartBounds.{PartBounds}
use Rattle.sql_text.specs.declared.part.PartBounds.TheVariants as bounds
use Rattle.sql_text.specs.declared.table_def.TableDef.{TableDef}
use Rattle.sql_text.specs.declared.table_def.Ranges.{Ranges}
use Rattle.sql_text.specs.declared.table_def.Property.{Property}
use Rattle.sql_text.specs.declared.table_def.ColumnText.{ColumnText}
use Rattle.sql_grammar.specs.Marks.{Mark, marked_word, matches}
use Rattle.sql_grammar.specs.Lang.{or_else}
use Rattle.sql_grammar.specs.Reading.{Reader, is, either, maybe, one, word_at, sign_at, name_at, count_at, text_at, means_at, commas_at, ◌>>=◌, ◌>>◌}
use Rattle.sql_text.specs.ReadNames.{word_or, names_at, literal_at, type_at, maybe_agg_at, nullable_at, default_at, comment_at}

unfoldable pub if_not_exists_at : Reader Bool
if_not_exists_at = do
  found ← maybe (one (marked_word (codes "IF"))) (word_at (codes "IF") >> (word_at (codes "NOT") >> word_at (codes "EXISTS")))
  is (is_some found)

unfoldable pub if_exists_at : Reader Bool
if_exists_at = do
  found ← maybe (one (marked_word (codes "IF"))) (word_at (codes "IF") >> word_at (codes "EXISTS"))
  is (is_some found)

-- behind CREATE DATABASE
unfoldable pub database_at : Reader Stmt
database_at = do
  quiet ← if_not_exists_at
  n ← name_at
  is (stmt.CreateDatabase quiet n)

unfoldable pub create_database_at : Reader Stmt
create_database_at = word_at (codes "DATABASE") >> database_at

unfoldable pub column_at : Reader ColumnText
column_at = do
  n ← name_at
  t ← type_at
  a ← maybe_agg_at
  u ← nullable_at
  d ← default_at
  comment_at
  is (record { name = n; kind = t; agg = a; nullable = u; default = d })

unfoldable pub engine_at : Reader (Unit {0})
engine_at = do
  maybe (one (marked_word (codes "ENGINE"))) (word_at (codes "ENGINE") >> (sign_at sign.Equal >> word_at (codes "OLAP")))
  is tt

unfoldable pub key_model_at : Reader Model
key_model_at = word_or (codes "DUPLICATE") model.Duplicate (word_or (codes "UNIQUE") model.Unique (means_at (codes "AGGREGATE") model.Aggregate))

abbrev pub key_first : List Mark
key_first = marked_word (codes "DUPLICATE") ∷ marked_word (codes "UNIQUE") ∷ marked_word (codes "AGGREGATE") ∷ []

unfoldable pub key_part_at : Reader KeyClause
key_part_at = do
  m ← key_model_at
  word_at (codes "KEY")
  ns ← names_at
  is (record { model = m; names = ns })

unfoldable pub maybe_key_at : Reader (Option KeyClause)
maybe_key_at = maybe (matches key_first) key_part_at

unfoldable pub end_in_at : Reader (Option Literal)
end_in_at = word_or (codes "MAXVALUE") None (literal_at >>= λ l. is (Some l))

unfoldable pub high_end_at : Reader (Option Literal)
high_end_at = word_or (codes "MAXVALUE") None do
  sign_at sign.Open
  end ← end_in_at
  sign_at sign.Close
  is end

unfoldable pub less_than_at : Reader PartBounds
less_than_at = do
  word_at (codes "LESS")
  word_at (codes "THAN")
  end ← high_end_at
  is (bounds.Less end)

unfoldable pub in_brackets_at : Reader Literal
in_brackets_at = do
  sign_at sign.Open
  l ← literal_at
  sign_at sign.Close
  is l

unfoldable pub from_to_at : Reader PartBounds
from_to_at = do
  sign_at sign.OpenRange
  low ← in_brackets_at
  sign_at sign.Comma
  high ← in_brackets_at
  sign_at sign.Close
  is (bounds.Between low high)

unfoldable pub bounds_at : Reader PartBounds
bounds_at = either (one (marked_word (codes "LESS"))) less_than_at from_to_at

unfoldable pub part_at : Reader Part
part_at = do
  word_at (codes "PARTITION")
  n ← name_at
  word_at (codes "VALUES")
  b ← bounds_at
  is (record { name = n; bounds = b })

-- behind the column of PARTITION BY RANGE
unfoldable pub range_parts_at : List ℕ → Reader Ranges
range_parts_at n = do
  sign_at sign.Close
  sign_at sign.Open
  parts ← commas_at part_at
  sign_at sign.Close
  is (record { column = n; parts = parts })

-- behind PARTITION
unfoldable pub partitioned_at : Reader Ranges
partitioned_at = do
  word_at (codes "BY")
  word_at (codes "RANGE")
  sign_at sign.Open
  n ← name_at
  range_parts_at n

unfoldable pub ranges_at : Reader Ranges
ranges_at = word_at (codes "PARTITION") >> partitioned_at

unfoldable pub maybe_ranges_at : Reader (Option Ranges)
maybe_ranges_at = maybe (one (marked_word (codes "PARTITION"))) ranges_at

unfoldable pub distributed_at : Reader (List (List ℕ))
distributed_at = do
  word_at (codes "DISTRIBUTED")
  word_at (codes "BY")
  word_at (codes "HASH")
  ns ← names_at
  is ns

unfoldable pub buckets_at : Reader (Option ℕ)
buckets_at = maybe (one (marked_word (codes "BUCKETS"))) (word_at (codes "BUCKETS") >> count_at)

unfoldable pub property_at : Reader Property
property_at = do
  n ← text_at
  sign_at sign.Equal
  v ← text_at
  is (record { name = n; value = v })

unfoldable pub property_list_at : Reader (List Property)
property_list_at = do
  word_at (codes "PROPERTIES")
  sign_at sign.Open
  ps ← commas_at property_at
  sign_at sign.Close
  is ps

unfoldable pub properties_at : Reader (List Property)
properties_at = do
  found ← maybe (one (marked_word (codes "PROPERTIES"))) property_list_at
  is (or_else [] found)

-- behind the columns
unfoldable pub options_at : List ColumnText → Reader TableDef
options_at columns = do
  engine_at
  key ← maybe_key_at
  comment_at
  ranges ← maybe_ranges_at
  hash ← distributed_at
  buckets ← buckets_at
  properties ← properties_at
  is (record { columns = columns; key = key; ranges = ranges; hash = hash; buckets = buckets; properties = properties })

unfoldable pub definition_at : Reader TableDef
definition_at = do
  sign_at sign.Open
  columns ← commas_at column_at
  sign_at sign.Close
  options_at columns

unfoldable pub create_table_at : Reader Stmt
create_table_at = do
  word_at (codes "TABLE")
  quiet ← if_not_exists_at
  n ← name_at
  d ← definition_at
  is (stmt.CreateTable quiet n d)

-- behind CREATE
unfoldable pub created_at : Reader Stmt
created_at = either (one (marked_word (codes "DATABASE"))) create_database_at create_table_at

unfoldable pub create_at : Reader Stmt
create_at = word_at (codes "CREATE") >> created_at

-- behind DROP
unfoldable pub dropped_at : Reader Stmt
dropped_at = do
  word_at (codes "TABLE")
  quiet ← if_exists_at
  n ← name_at
  is (stmt.DropTable quiet n)

unfoldable pub drop_at : Reader Stmt
drop_at = word_at (codes "DROP") >> dropped_at
