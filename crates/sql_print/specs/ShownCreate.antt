-- The tokens of CREATE and DROP. Neither the engine nor comments are written.
use Rattle.std.specs.Prelude.{ℕ, pos, Bool, List, [], ◌∷◌, ◌++◌, Option, Some, None, codes}
use Rattle.schema_models.specs.declared.model.Model.{Model}
use Rattle.schema_models.specs.declared.model.Model.TheVariants as model
use Rattle.sql_tokens.specs.declared.token.Sign.TheVariants as sign
use Rattle.sql_tokens.specs.declared.token.TokenKind.{TokenKind}
use Rattle.sql_tokens.specs.declared.token.TokenKind.TheVariants as kind
use Rattle.sql_text.specs.declared.query.Literal.{Literal}
use Rattle.sql_text.specs.declared.key_clause.KeyClause.{KeyClause}
use Rattle.sql_text.specs.declared.part.Part.{Part}
use Rattle.sql_text.specs.declared.part.PartBounds.{PartBounds}
use Rattle.sql_text.specs.declared.part.PartBounds.TheVariants as bounds
use Rattle.sql_text.specs.declared.table_def.TableDef.{TableDef}
use Rattle.sql_text.specs.declared.table_def.Ranges.{Ranges}
use Rattle.sql_text.specs.declared.table_def.Property.{Property}
use Rattle.sql_text.specs.declared.table_def.ColumnText.{ColumnText}
use Rattle.sql_print.specs.Parts.{maybe, when, commas, keyword, names, literal_tokens, type_tokens, agg_tokens, nullable_tokens, default_tokens}

unfoldable pub if_not_exists : List TokenKind
if_not_exists = kind.Word (codes "IF") ∷ kind.Word (codes "NOT") ∷ kind.Word (codes "EXISTS") ∷ []

unfoldable pub if_exists : List TokenKind
if_exists = kind.Word (codes "IF") ∷ kind.Word (codes "EXISTS") ∷ []

unfoldable pub column_tokens : ColumnText → List TokenKind
column_tokens c = kind.Quoted c.name ∷ (type_tokens c.kind ++ (maybe agg_tokens c.agg ++ (nullable_tokens c.nullable ++ maybe default_tokens c.default)))

unfoldable pub model_word : Model → List ℕ
model_word model.Duplicate = codes "DUPLICATE"
model_word model.Unique = codes "UNIQUE"
model_word model.Aggregate = codes "AGGREGATE"

unfoldable pub key_clause_tokens : KeyClause → List TokenKind
key_clause_tokens k = kind.Word (model_word k.model) ∷ kind.Word (codes "KEY") ∷ names k.names

unfoldable pub bracketed : Literal → List TokenKind
bracketed l = kind.Sign sign.Open ∷ (literal_tokens l ++ (kind.Sign sign.Close ∷ []))

-- MAXVALUE stands without parentheses
unfoldable pub end_tokens : Option Literal → List TokenKind
end_tokens None = keyword (codes "MAXVALUE")
end_tokens (Some l) = bracketed l

unfoldable pub bounds_tokens : PartBounds → List TokenKind
bounds_tokens (bounds.Less end) = kind.Word (codes "LESS") ∷ kind.Word (codes "THAN") ∷ end_tokens end
bounds_tokens (bounds.Between low high) = kind.Sign sign.OpenRange ∷ (bracketed low ++ (kind.Sign sign.Comma ∷ (bracketed high ++ (kind.Sign sign.Close ∷ []))))

-- PARTITION name VALUES, and what stands behind it
abbrev pub with_values : List ℕ → List TokenKind → List TokenKind
with_values n more = kind.Word (codes "PARTITION") ∷ kind.Quoted n ∷ kind.Word (codes "VALUES") ∷ more

unfoldable pub part_tokens : Part → List TokenKind
part_tokens p = with_values p.name (bounds_tokens p.bounds)

-- PARTITION BY RANGE '(' name ')', and what stands behind it
abbrev pub by_range : List ℕ → List TokenKind → List TokenKind
by_range n more =
    kind.Word (codes "PARTITION") ∷ kind.Word (codes "BY") ∷ kind.Word (codes "RANGE") ∷ kind.Sign sign.Open ∷ kind.Quoted n
    ∷ kind.Sign sign.Close ∷ more

unfoldable pub ranges_tokens : Ranges → List TokenKind
ranges_tokens r = by_range r.column (kind.Sign sign.Open ∷ (commas part_tokens r.parts ++ (kind.Sign sign.Close ∷ [])))

unfoldable pub distributed_tokens : List (List ℕ) → List TokenKind
distributed_tokens ns = kind.Word (codes "DISTRIBUTED") ∷ kind.Word (codes "BY") ∷ kind.Word (codes "HASH") ∷ names ns

unfoldable pub buckets_tokens : ℕ → List TokenKind
buckets_tokens n = kind.Word (codes "BUCKETS") ∷ kind.Int (pos n) ∷ []

unfoldable pub property_tokens : Property → List TokenKind
property_tokens p = kind.Text p.name ∷ kind.Sign sign.Equal ∷ kind.Text p.value ∷ []

unfoldable pub properties_tokens : List Property → List TokenKind
properties_tokens [] = []
properties_tokens (p ∷ ps) = kind.Word (codes "PROPERTIES") ∷ kind.Sign sign.Open ∷ (commas property_tokens (p ∷ ps) ++ (kind.Sign sign.Close ∷ []))

-- what stands behind the columns
unfoldable pub definition_end : TableDef → List TokenKind
definition_end d =
    maybe key_clause_tokens d.key
    ++ (maybe ranges_tokens d.ranges ++ (distributed_tokens d.hash ++ (maybe buckets_tokens d.buckets ++ properties_tokens d.properties)))

unfoldable pub definition_tokens : TableDef → List TokenKind
definition_tokens d = kind.Sign sign.Open ∷ (commas column_tokens d.columns ++ (kind.Sign sign.Close ∷ definition_end d))

unfoldable pub create_database_tokens : Bool → List ℕ → List TokenKind
create_database_tokens quiet n = kind.Word (codes "CREATE") ∷ kind.Word (codes "DATABASE") ∷ (when quiet if_not_exists ++ (kind.Quoted n ∷ []))

unfoldable pub create_table_tokens : Bool → List ℕ → TableDef → List TokenKind
create_table_tokens quiet n d = kind.Word (codes "CREATE") ∷ kind.Word (codes "TABLE") ∷ (when quiet if_not_exists ++ (kind.Quoted n ∷ definition_tokens d))

unfoldable pub drop_table_tokens : Bool → List ℕ → List TokenKind
drop_table_tokens quiet n = kind.Word (codes "DROP") ∷ kind.Word (codes "TABLE") ∷ (when quiet if_exists ++ (kind.Quoted n ∷ []))
