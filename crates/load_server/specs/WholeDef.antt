-- The definition of a table that a plain one stands for: neither kinds nor defaults nor properties, and one partition.
use Rattle.std.specs.Prelude.{[], None, map}
use Rattle.dl_values.specs.declared.col_type.ColType.{ColType}
use Rattle.dl_values.specs.declared.col_type.ColType.TheVariants as kind
use Rattle.sql_text.specs.declared.plain_def.PlainColumn.{PlainColumn}
use Rattle.sql_text.specs.declared.plain_def.PlainDef.{PlainDef}
use Rattle.sql_text.specs.declared.table_def.ColumnText.{ColumnText}
use Rattle.sql_text.specs.declared.table_def.ColumnType.{ColumnType}
use Rattle.sql_text.specs.declared.table_def.ColumnType.TheVariants as written
use Rattle.sql_text.specs.declared.table_def.TableDef.{TableDef}

abbrev pub whole_kind : ColType → ColumnType
whole_kind kind.TinyInt = written.TinyInt
whole_kind kind.SmallInt = written.SmallInt
whole_kind kind.Int = written.Int
whole_kind kind.BigInt = written.BigInt
whole_kind kind.Date = written.Date
whole_kind (kind.Varchar most) = written.Varchar most

abbrev pub whole_column : PlainColumn → ColumnText
whole_column c = record { name = c.name; kind = whole_kind c.kind; agg = None; nullable = c.nullable; default = None }

-- the rest is as it is written
abbrev pub whole_def : PlainDef → TableDef
whole_def d = record { columns = map whole_column d.columns; key = d.key; ranges = None; hash = d.hash; buckets = d.buckets; properties = [] }
