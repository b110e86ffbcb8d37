-- CREATE and DROP (Apache Doris documentation, "CREATE DATABASE", "CREATE TABLE", "DROP TABLE").
use Rattle.std.specs.Prelude.{ℕ, Bool, List, [], Option, Some, None, is_some, codes}
use Rattle.schema_models.specs.declared.model.Model.{Model}
use Rattle.schema_models.specs.declared.model.Model.TheVariants as model
use Rattle.sql_tokens.specs.declared.token.Sign.TheVariants as sign
use Rattle.sql_text.specs.declared.stmt.Stmt.{Stmt}
use Rattle.sql_text.specs.declared.stmt.Stmt.TheVariants as stmt
use Rattle.sql_text.specs.declared.query.Literal.{Literal}
use Rattle.sql_text.specs.declared.key_clause.KeyClause.{KeyClause}
use Rattle.sql_text.specs.declared.part.Part.{Part}
use Rattle.sql_text.specs.declared.part.PartBounds.{PartBounds}
use Rattle.sql_text.specs.declared.part.PartBounds.TheVariants as bounds
use Rattle.sql_text.specs.declared.table_def.TableDef.{TableDef}
use Rattle.sql_text.specs.declared.table_def.Ranges.{Ranges}
use Rattle.sql_text.specs.declared.table_def.Property.{Property}
use Rattle.sql_text.specs.declared.table_def.ColumnText.{ColumnText}
use Rattle.sql_grammar.specs.Lang.{Lang, Is, Or, Maybe, Commas, Word, Sign_, Means, or_else, ◌>>=◌, ◌>>◌}
use Rattle.sql_text.specs.Names.{Name, Count, String, Names, Literal_, Type_, Agg, Nullable, Default, Comment}

-- [IF NOT EXISTS]
unfoldable pub IfNotExists : Lang Bool
IfNotExists = do
  found ← Maybe (Word (codes "IF") >> (Word (codes "NOT") >> Word (codes "EXISTS")))
  Is (is_some found)

-- [IF EXISTS]
unfoldable pub IfExists : Lang Bool
IfExists = do
  found ← Maybe (Word (codes "IF") >> Word (codes "EXISTS"))
  Is (is_some found)

-- DATABASE [IF NOT EXISTS] name
unfoldable pub CreateDatabase : Lang Stmt
CreateDatabase = do
  Word (codes "DATABASE")
  quiet ← IfNotExists
  n ← Name
  Is (stmt.CreateDatabase quiet n)

-- col := name type [agg] [NULL | NOT NULL] [DEFAULT (literal | NULL)] [COMMENT string]
unfoldable pub Column : Lang ColumnText
Column = do
  n ← Name
  t ← Type_
  a ← Maybe Agg
  u ← Nullable
  d ← Default
  Comment
  Is (record { name = n; kind = t; agg = a; nullable = u; default = d })

-- [ENGINE '=' OLAP], which is dropped
unfoldable pub Engine : Lang (Unit {0})
Engine = do
  Maybe (Word (codes "ENGINE") >> (Sign_ sign.Equal >> Word (codes "OLAP")))
  Is tt

-- [(DUPLICATE | UNIQUE | AGGREGATE) KEY names]
unfoldable pub KeyModel : Lang Model
KeyModel =
    Or (Means (codes "DUPLICATE") model.Duplicate)
    (Or (Means (codes "UNIQUE") model.Unique) (Means (codes "AGGREGATE") model.Aggregate))

unfoldable pub KeyPart : Lang KeyClause
KeyPart = do
  m ← KeyModel
  Word (codes "KEY")
  ns ← Names
  Is (record { model = m; names = ns })

-- bounds := LESS THAN (MAXVALUE | '(' (MAXVALUE | literal) ')')
--         | '[' '(' literal ')' ',' '(' literal ')' ')'
unfoldable pub HighEnd : Lang (Option Literal)
HighEnd = Or (Means (codes "MAXVALUE") None) do
  Sign_ sign.Open
  end ← Or (Means (codes "MAXVALUE") None) (Literal_ >>= λ l. Is (Some l))
  Sign_ sign.Close
  Is end

unfoldable pub LessThan : Lang PartBounds
LessThan = do
  Word (codes "LESS")
  Word (codes "THAN")
  end ← HighEnd
  Is (bounds.Less end)

unfoldable pub InBrackets : Lang Literal
InBrackets = do
  Sign_ sign.Open
  l ← Literal_
  Sign_ sign.Close
  Is l

unfoldable pub FromTo : Lang PartBounds
FromTo = do
  Sign_ sign.OpenRange
  low ← InBrackets
  Sign_ sign.Comma
  high ← InBrackets
  Sign_ sign.Close
  Is (bounds.Between low high)

-- part := PARTITION name VALUES bounds
unfoldable pub Part_ : Lang Part
Part_ = do
  Word (codes "PARTITION")
  n ← Name
  Word (codes "VALUES")
  b ← Or LessThan FromTo
  Is (record { name = n; bounds = b })

-- PARTITION BY RANGE '(' name ')' '(' part {',' part} ')'
unfoldable pub Ranges_ : Lang Ranges
Ranges_ = do
  Word (codes "PARTITION")
  Word (codes "BY")
  Word (codes "RANGE")
  Sign_ sign.Open
  n ← Name
  Sign_ sign.Close
  Sign_ sign.Open
  parts ← Commas Part_
  Sign_ sign.Close
  Is (record { column = n; parts = parts })

-- DISTRIBUTED BY HASH names
unfoldable pub Distributed : Lang (List (List ℕ))
Distributed = do
  Word (codes "DISTRIBUTED")
  Word (codes "BY")
  Word (codes "HASH")
  ns ← Names
  Is ns

-- [BUCKETS integer]
unfoldable pub Buckets : Lang (Option ℕ)
Buckets = Maybe (Word (codes "BUCKETS") >> Count)

-- [PROPERTIES '(' string '=' string {',' string '=' string} ')']
unfoldable pub Property_ : Lang Property
Property_ = do
  n ← String
  Sign_ sign.Equal
  v ← String
  Is (record { name = n; value = v })

unfoldable pub PropertyList : Lang (List Property)
PropertyList = do
  Word (codes "PROPERTIES")
  Sign_ sign.Open
  ps ← Commas Property_
  Sign_ sign.Close
  Is ps

unfoldable pub Properties : Lang (List Property)
Properties = do
  found ← Maybe PropertyList
  Is (or_else [] found)

-- '(' col {',' col} ')' [ENGINE ..] [.. KEY names] [COMMENT string] [PARTITION BY ..] DISTRIBUTED BY HASH names
--   [BUCKETS integer] [PROPERTIES ..]
unfoldable pub Definition : Lang TableDef
Definition = do
  Sign_ sign.Open
  columns ← Commas Column
  Sign_ sign.Close
  Engine
  key ← Maybe KeyPart
  Comment
  ranges ← Maybe Ranges_
  hash ← Distributed
  buckets ← Buckets
  properties ← Properties
  Is (record { columns = columns; key = key; ranges = ranges; hash = hash; buckets = buckets; properties = properties })

-- TABLE [IF NOT EXISTS] name ..
unfoldable pub CreateTable : Lang Stmt
CreateTable = do
  Word (codes "TABLE")
  quiet ← IfNotExists
  n ← Name
  d ← Definition
  Is (stmt.CreateTable quiet n d)

-- CREATE (DATABASE .. | TABLE ..)
unfoldable pub Create : Lang Stmt
Create = Word (codes "CREATE") >> Or CreateDatabase CreateTable

-- DROP TABLE [IF EXISTS] name
unfoldable pub Drop : Lang Stmt
Drop = do
  Word (codes "DROP")
  Word (codes "TABLE")
  quiet ← IfExists
  n ← Name
  Is (stmt.DropTable quiet n)
