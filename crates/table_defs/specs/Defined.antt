-- What the definition of a table gives, or its first refusal (Apache Doris documentation, "CREATE TABLE").
use Rattle.std.specs.Prelude.{◌≡◌, ℕ, Bool, true, false, not, ◌&&◌, List, [], ◌∷◌, Option, Some, None, Ok, Err, codes, ◌⊎◌, MatchResult}
use Rattle.std.specs.declared.result.Result.{Result}
use Rattle.std.specs.List.{list_any}
use Rattle.std.specs.Option.{option_map}
use Rattle.std.specs.Str.{bytes_eq}
use Rattle.schema_models.specs.Faults.{first_of, refuse_if}
use Rattle.schema_models.specs.ShapeRules.{shape_fault}
use Rattle.schema_models.specs.ShapeView.{ShapeView}
use Rattle.schema_models.specs.declared.shape_error.ShapeError.{ShapeError}
use Rattle.schema_models.specs.declared.shape_error.ShapeError.TheVariants as shape_error
use Rattle.partitions.specs.LayoutFaults.{defined, layout_fault}
use Rattle.partitions.specs.LayoutView.{LayoutView}
use Rattle.partitions.specs.declared.layout_error.LayoutError.{LayoutError}
use Rattle.partitions.specs.declared.layout_error.LayoutError.TheVariants as layouts
use Rattle.sql_text.specs.declared.table_def.Property.{Property}
use Rattle.sql_text.specs.declared.table_def.TableDef.{TableDef}
use Rattle.table_defs.specs.Columns.{key_differs, key_with_kind, shape_of}
use Rattle.table_defs.specs.Parts.{buckets_of, parts_of}
use Rattle.table_defs.specs.declared.def_error.DefError.{DefError}
use Rattle.table_defs.specs.declared.def_error.DefError.TheVariants as def_error

-- the property that would make a Unique table merge on write, which no table does
abbrev pub merge_on_write : List ℕ
merge_on_write = codes "enable_unique_key_merge_on_write"

abbrev pub is_bad : Property → Bool
is_bad p = bytes_eq p.name merge_on_write && not (bytes_eq p.value (codes "false"))

-- what may be wrong with the key clause
abbrev pub key_fault : TableDef → Option ShapeError
key_fault def = first_of (option_map shape_error.KeyAfterValue (key_differs def.key def.columns) ∷ option_map shape_error.BadAgg (key_with_kind def) ∷ [])

-- with the columns
abbrev pub columns_fault : TableDef → Option DefError
columns_fault def = option_map def_error.Shape (shape_fault (shape_of def).model (shape_of def).columns)

-- and with the layout
abbrev pub layout_faults : List ℕ → TableDef → Option DefError
layout_faults table def = option_map def_error.Layout (layout_fault (shape_of def) (parts_of table (shape_of def).columns def.ranges) def.hash (buckets_of def.buckets))

-- the first refusal of a definition, if there is one: of the key clause, the columns, the layout, and then the properties
abbrev pub def_fault : List ℕ → TableDef → Option DefError
def_fault table def = first_of (
    option_map def_error.Shape (key_fault def)
    ∷ columns_fault def
    ∷ layout_faults table def
    ∷ refuse_if (list_any is_bad def.properties) def_error.BadProperty
    ∷ [])

-- how its rows are spread
abbrev pub layout_of : List ℕ → TableDef → LayoutView
layout_of table def = defined (shape_of def) (parts_of table (shape_of def).columns def.ranges) def.hash (buckets_of def.buckets)

-- want of memory is told once
abbrev pub layout_error : LayoutError → DefError
layout_error layouts.NoMemory = def_error.NoMemory
layout_error e = def_error.Layout e
