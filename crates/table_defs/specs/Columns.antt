-- The columns of a table's definition (Apache Doris documentation, "CREATE TABLE").
use Rattle.std.specs.Prelude.{ℕ, zero, suc, ◌+◌, ◌-◌, Bool, true, false, cond, min, List, [], ◌∷◌, Option, Some, None, length, is_none}
use Rattle.std.specs.Option.{option_map}
use Rattle.std.specs.Str.{bytes_eq}
use Rattle.dl_values.specs.declared.agg_kind.AggKind.{AggKind}
use Rattle.dl_values.specs.declared.cell.Cell.{Cell}
use Rattle.dl_values.specs.declared.cell.Cell.TheVariants as cell
use Rattle.dl_values.specs.declared.col_type.ColType.{ColType}
use Rattle.dl_values.specs.declared.col_type.ColType.TheVariants as kind
use Rattle.schema_models.specs.ShapeView.{ShapeView}
use Rattle.schema_models.specs.declared.column_def.ColumnDef.{ColumnDef}
use Rattle.schema_models.specs.declared.model.Model.{Model}
use Rattle.schema_models.specs.declared.model.Model.TheVariants as model
use Rattle.schema_models.specs.declared.role.Role.{Role}
use Rattle.schema_models.specs.declared.role.Role.TheVariants as role
use Rattle.sql_text.specs.declared.key_clause.KeyClause.{KeyClause}
use Rattle.sql_text.specs.declared.table_def.ColumnText.{ColumnText}
use Rattle.sql_text.specs.declared.table_def.ColumnType.{ColumnType}
use Rattle.sql_text.specs.declared.table_def.ColumnType.TheVariants as written
use Rattle.sql_text.specs.declared.table_def.DefaultText.{DefaultText}
use Rattle.sql_text.specs.declared.table_def.DefaultText.TheVariants as default
use Rattle.sql_text.specs.declared.table_def.TableDef.{TableDef}
use Rattle.table_defs.specs.Literals.{value_cell}

-- without a key clause the table is Duplicate, with its first column as key
abbrev pub model_of : Option KeyClause → Model
model_of None = model.Duplicate
model_of (Some k) = k.model

abbrev pub keys_of : Option KeyClause → ℕ
keys_of None = 1
keys_of (Some k) = length k.names

-- a length that 32 bits do not hold is no length of a VARCHAR either
abbrev pub kind_of : ColumnType → ColType
kind_of written.TinyInt = kind.TinyInt
kind_of written.SmallInt = kind.SmallInt
kind_of written.Int = kind.Int
kind_of written.BigInt = kind.BigInt
kind_of written.Date = kind.Date
kind_of (written.Varchar m) = kind.Varchar (min m 4294967295)

abbrev pub value_role : Option AggKind → Role
value_role None = role.Plain
value_role (Some k) = role.Agg k

abbrev pub default_of : ColType → Option DefaultText → Option Cell
default_of t None = None
default_of t (Some default.Null) = Some cell.Null
default_of t (Some (default.Value l)) = Some (value_cell t l)

abbrev pub column_as : Role → ColumnText → ColumnDef
column_as r c = record { name = c.name; kind = kind_of c.kind; nullable = c.nullable; role = r; default = default_of (kind_of c.kind) c.default }

-- the first columns are keys: so many are still to come
abbrev pub role_of : ℕ → ColumnText → Role
role_of zero c = value_role c.agg
role_of (suc n) c = role.Key

abbrev pub columns_of : ℕ → List ColumnText → List ColumnDef
columns_of n [] = []
columns_of n (c ∷ cs) = column_as (role_of n c) c ∷ columns_of (n - 1) cs

abbrev pub shape_of : TableDef → ShapeView
shape_of def = record { model = model_of def.key; columns = columns_of (keys_of def.key) def.columns }

-- ---- what may be wrong with the keys

-- the position of the first name of a key list that is not that of the column in its place
abbrev pub differs_from : ℕ → List (List ℕ) → List ColumnText → Option ℕ
differs_from n [] columns = None
differs_from n (k ∷ ks) [] = Some n
differs_from n (k ∷ ks) (c ∷ cs) = cond (bytes_eq k c.name) (differs_from (n + 1) ks cs) (Some n)

abbrev pub key_differs : Option KeyClause → List ColumnText → Option ℕ
key_differs None columns = None
key_differs (Some k) columns = differs_from 0 k.names columns

-- the position of the first of n columns that is written with a kind
abbrev pub kind_from : ℕ → ℕ → List ColumnText → Option ℕ
kind_from at zero columns = None
kind_from at (suc n) [] = None
kind_from at (suc n) (c ∷ cs) = cond (is_none c.agg) (kind_from (at + 1) n cs) (Some at)

abbrev pub key_with_kind : TableDef → Option ℕ
key_with_kind def = kind_from 0 (keys_of def.key) def.columns
