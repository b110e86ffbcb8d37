-- The members of a select list, and how a result names them (Apache Doris documentation, "SELECT"; the names of aggregates
-- are this project's own).
use Rattle.std.specs.Prelude.{ℕ, Bool, true, false, cond, List, [], ◌++◌, Option, Some, None, codes, decimal, map}
use Rattle.std.specs.Str.{bytes_eq}
use Rattle.dl_values.specs.declared.col_type.ColType.{ColType}
use Rattle.dl_values.specs.declared.col_type.ColType.TheVariants as kind
use Rattle.schema_models.specs.ShapeView.{ShapeView}
use Rattle.schema_models.specs.declared.column_def.ColumnDef.{ColumnDef}
use Rattle.sql_text.specs.declared.query.AggFn.{AggFn}
use Rattle.sql_text.specs.declared.query.AggFn.TheVariants as fn
use Rattle.sql_text.specs.declared.query.Item.{Item}
use Rattle.sql_text.specs.declared.query.Item.TheVariants as item
use Rattle.sql_text.specs.declared.query.Query.{Query}
use Rattle.select_defs.specs.Columns.{kind_named}

-- the select list: `*` is every column of the base, in order
abbrev pub items_of : ShapeView → Query → List Item
items_of base q = cond q.star (map (λ (c : ColumnDef). item.Column c.name) base.columns) q.items

abbrev pub same_function : AggFn → AggFn → Bool
same_function fn.Sum fn.Sum = true
same_function fn.Min fn.Min = true
same_function fn.Max fn.Max = true
same_function fn.Count fn.Count = true
same_function _ _ = false

abbrev pub same_item : Item → Item → Bool
same_item (item.Column a) (item.Column b) = bytes_eq a b
same_item (item.Agg f a) (item.Agg g b) = cond (same_function f g) (bytes_eq a b) false
same_item item.CountAll item.CountAll = true
same_item _ _ = false

abbrev pub is_aggregate : Item → Bool
is_aggregate (item.Column a) = false
is_aggregate _ = true

abbrev pub function_word : AggFn → List ℕ
function_word fn.Sum = codes "sum"
function_word fn.Min = codes "min"
function_word fn.Max = codes "max"
function_word fn.Count = codes "count"

-- a column by its name, an aggregate by its function with the column in parentheses
abbrev pub output_name : Item → List ℕ
output_name (item.Column a) = a
output_name (item.Agg f a) = function_word f ++ codes "(" ++ a ++ codes ")"
output_name item.CountAll = codes "count(*)"

-- a type as a statement writes it
abbrev pub type_text : ColType → List ℕ
type_text kind.TinyInt = codes "TINYINT"
type_text kind.SmallInt = codes "SMALLINT"
type_text kind.Int = codes "INT"
type_text kind.BigInt = codes "BIGINT"
type_text kind.Date = codes "DATE"
type_text (kind.Varchar most) = codes "VARCHAR(" ++ decimal most ++ codes ")"

abbrev pub column_type : Option ColType → List ℕ
column_type None = []
column_type (Some t) = type_text t

-- sums and counts have BIGINT, the others the type of their column
abbrev pub output_type : ShapeView → Item → List ℕ
output_type base (item.Column a) = column_type (kind_named base a)
output_type base (item.Agg fn.Min a) = column_type (kind_named base a)
output_type base (item.Agg fn.Max a) = column_type (kind_named base a)
output_type base _ = codes "BIGINT"
