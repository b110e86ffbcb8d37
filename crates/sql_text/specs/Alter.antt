-- ALTER TABLE (Apache Doris documentation, "ALTER TABLE COLUMN", "ALTER TABLE PARTITION", "ALTER TABLE ROLLUP",
-- "CANCEL ALTER TABLE").
use Rattle.std.specs.Prelude.{ℕ, Bool, List, is_some, codes}
use Rattle.sql_text.specs.declared.stmt.Stmt.{Stmt}
use Rattle.sql_text.specs.declared.stmt.Stmt.TheVariants as stmt
use Rattle.sql_text.specs.declared.stmt.AlterKind.{AlterKind}
use Rattle.sql_text.specs.declared.stmt.AlterKind.TheVariants as kind
use Rattle.sql_text.specs.declared.clause.Clause.{Clause}
use Rattle.sql_text.specs.declared.clause.Clause.TheVariants as clause
use Rattle.sql_text.specs.declared.clause.AlteredColumn.{AlteredColumn}
use Rattle.sql_text.specs.declared.clause.ColumnPlace.{ColumnPlace}
use Rattle.sql_text.specs.declared.clause.ColumnPlace.TheVariants as place
use Rattle.sql_grammar.specs.Lang.{Lang, Is, Or, Maybe, Commas, Word, Means, ◌>>=◌, ◌>>◌}
use Rattle.sql_text.specs.Names.{Name, Names, Type_, Agg, Nullable, Default, Comment}
use Rattle.sql_text.specs.Create.{Part_}

-- [KEY]
unfoldable pub IsKey : Lang Bool
IsKey = do
  found ← Maybe (Word (codes "KEY"))
  Is (is_some found)

-- acol := name type [KEY] [agg] [NULL | NOT NULL] [DEFAULT (literal | NULL)] [COMMENT string]
unfoldable pub Altered : Lang AlteredColumn
Altered = do
  n ← Name
  t ← Type_
  k ← IsKey
  a ← Maybe Agg
  u ← Nullable
  d ← Default
  Comment
  Is (record { name = n; kind = t; key = k; agg = a; nullable = u; default = d })

-- FIRST | AFTER name
unfoldable pub Place : Lang ColumnPlace
Place = Or (Means (codes "FIRST") place.First) do
  Word (codes "AFTER")
  n ← Name
  Is (place.After n)

-- COLUMN acol [FIRST | AFTER name]
unfoldable pub AddedColumn : Lang Clause
AddedColumn = do
  Word (codes "COLUMN")
  c ← Altered
  p ← Maybe Place
  Is (clause.Add c p)

-- DROP COLUMN name
unfoldable pub DropColumn : Lang Clause
DropColumn = do
  Word (codes "DROP")
  Word (codes "COLUMN")
  n ← Name
  Is (clause.Drop n)

-- MODIFY COLUMN acol
unfoldable pub ModifyColumn : Lang Clause
ModifyColumn = do
  Word (codes "MODIFY")
  Word (codes "COLUMN")
  c ← Altered
  Is (clause.Modify c)

-- ORDER BY names
unfoldable pub OrderColumns : Lang Clause
OrderColumns = do
  Word (codes "ORDER")
  Word (codes "BY")
  ns ← Names
  Is (clause.Order ns)

-- clause := ADD COLUMN acol [FIRST | AFTER name] | DROP COLUMN name | MODIFY COLUMN acol | ORDER BY names
unfoldable pub Clause_ : Lang Clause
Clause_ = Or (Word (codes "ADD") >> AddedColumn) (Or DropColumn (Or ModifyColumn OrderColumns))

-- ADD part
unfoldable pub AddPart : List ℕ → Lang Stmt
AddPart table = do
  Word (codes "ADD")
  p ← Part_
  Is (stmt.AddPartition table p)

-- ADD ROLLUP name names
unfoldable pub AddRollup : List ℕ → Lang Stmt
AddRollup table = do
  Word (codes "ADD")
  Word (codes "ROLLUP")
  n ← Name
  ns ← Names
  Is (stmt.AddRollup table n ns)

-- clause {',' clause}
unfoldable pub Clauses : List ℕ → Lang Stmt
Clauses table = do
  cs ← Commas Clause_
  Is (stmt.Alter table cs)

-- ALTER TABLE name (ADD part | ADD ROLLUP name names | clause {',' clause})
unfoldable pub Alter : Lang Stmt
Alter = do
  Word (codes "ALTER")
  Word (codes "TABLE")
  table ← Name
  Or (AddPart table) (Or (AddRollup table) (Clauses table))

-- COLUMN | ROLLUP
unfoldable pub Kind : Lang AlterKind
Kind = Or (Means (codes "COLUMN") kind.Column) (Means (codes "ROLLUP") kind.Rollup)

-- CANCEL ALTER TABLE (COLUMN | ROLLUP) FROM name
unfoldable pub Cancel : Lang Stmt
Cancel = do
  Word (codes "CANCEL")
  Word (codes "ALTER")
  Word (codes "TABLE")
  k ← Kind
  Word (codes "FROM")
  table ← Name
  Is (stmt.CancelAlter k table)
