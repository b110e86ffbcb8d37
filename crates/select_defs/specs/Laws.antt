-- What the laws of queries speak of.
use Rattle.std.specs.Prelude.{◌≡◌, ℕ, Bool, true, false, cond, ◌&&◌, ◌||◌, List, [], ◌∷◌, length}
use Rattle.std.specs.List.{list_all}
use Rattle.std.specs.Str.{bytes_eq}
use Rattle.agg_functions.specs.Merge.{merged_cell}
use Rattle.dl_values.specs.declared.agg_kind.AggKind.{AggKind}
use Rattle.dl_values.specs.declared.agg_kind.AggKind.TheVariants as merge
use Rattle.dl_values.specs.declared.cell.Cell.{Cell}
use Rattle.schema_models.specs.ShapeRules.{is_key}
use Rattle.schema_models.specs.ShapeView.{ShapeView}
use Rattle.schema_models.specs.declared.column_def.ColumnDef.{ColumnDef}
use Rattle.schema_models.specs.declared.model.Model.{Model}
use Rattle.schema_models.specs.declared.model.Model.TheVariants as model
use Rattle.schema_models.specs.declared.role.Role.{Role}
use Rattle.schema_models.specs.declared.role.Role.TheVariants as role
use Rattle.sql_text.specs.declared.query.AggFn.{AggFn}
use Rattle.sql_text.specs.declared.query.AggFn.TheVariants as fn
use Rattle.sql_text.specs.declared.query.Filter.{Filter}
use Rattle.sql_text.specs.declared.query.Item.{Item}
use Rattle.sql_text.specs.declared.query.Item.TheVariants as item
use Rattle.sql_text.specs.declared.query.Query.{Query}
use Rattle.select_defs.specs.Items.{items_of}
use Rattle.select_defs.specs.Refusals.{is_grouped}

-- one of the first columns, which are keys, has the name
abbrev pub names_key : List ColumnDef → List ℕ → Bool
names_key [] name = false
names_key (c ∷ cs) name = is_key c.role && (bytes_eq c.name name || names_key cs name)

-- the tests of a query look at keys alone, or at anything where the whole row is the key
abbrev pub tests_keys_in : Model → List ColumnDef → List Filter → Bool
tests_keys_in model.Duplicate columns filters = true
tests_keys_in model.Unique columns filters = list_all (λ (f : Filter). names_key columns f.column) filters
tests_keys_in model.Aggregate columns filters = list_all (λ (f : Filter). names_key columns f.column) filters

abbrev pub tests_keys : ShapeView → Query → Bool
tests_keys s q = tests_keys_in s.model s.columns q.filters

-- the aggregate of two lists of cells, from the aggregate of each
abbrev pub joined : AggFn → Cell → Cell → Cell
joined fn.Sum a b = merged_cell merge.Sum a b
joined fn.Min a b = merged_cell merge.Min a b
joined fn.Max a b = merged_cell merge.Max a b
joined fn.Count a b = merged_cell merge.Sum a b

-- the cell of an item for two parts of a group, from those for each: a cell of the key is the same in both
abbrev pub joined_item : Item → Cell → Cell → Cell
joined_item (item.Column name) a b = a
joined_item (item.Agg f name) a b = joined f a b
joined_item item.CountAll a b = merged_cell merge.Sum a b

-- ---- queries that a fold serves: which of them a table with aggregated rows, as a rollup, may answer (Apache Doris
-- documentation, "Rollup" and "Aggregate Key Model")

-- cells merge as the function aggregates them
abbrev pub merges_alike : AggFn → AggKind → Bool
merges_alike fn.Sum merge.Sum = true
merges_alike fn.Min merge.Min = true
merges_alike fn.Max merge.Max = true
merges_alike _ _ = false

abbrev pub role_aggregates : AggFn → Role → Bool
role_aggregates f (role.Agg k) = merges_alike f k
role_aggregates f _ = false

-- the column of the name is aggregated by the function
abbrev pub is_aggregated_by : AggFn → List ColumnDef → List ℕ → Bool
is_aggregated_by f [] name = false
is_aggregated_by f (c ∷ cs) name = cond (bytes_eq c.name name) (role_aggregates f c.role) (is_aggregated_by f cs name)

-- the functions to which an equal cell more does not matter
abbrev pub is_extreme : AggFn → Bool
is_extreme fn.Min = true
is_extreme fn.Max = true
is_extreme _ = false

-- SUM, MIN or MAX of a column that is aggregated by it, or MIN or MAX of a key; what is no aggregate is grouped by. A count
-- is of rows, which become fewer.
abbrev pub is_served_item : List ColumnDef → Item → Bool
is_served_item columns (item.Column name) = true
is_served_item columns (item.Agg f name) = is_aggregated_by f columns name || (is_extreme f && names_key columns name)
is_served_item columns item.CountAll = false

-- the rows of the answer are groups, the query filters and groups by keys alone, and each of its items is served
abbrev pub is_served_by_folds : ShapeView → ShapeView → Query → Bool
is_served_by_folds base s q = is_grouped base q && (tests_keys s q && (list_all (names_key s.columns) q.group && list_all (is_served_item s.columns) (items_of base q)))

-- a row has a cell for each column
abbrev pub IsWide : ShapeView → List Cell → Type 0
IsWide s row = length row ≡ length s.columns
