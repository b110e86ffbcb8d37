-- Columns by their names.
use Rattle.std.specs.Prelude.{ℕ, Bool, true, false, cond, ◌&&◌, ◌||◌, List, [], ◌∷◌, Option, Some, None}
use Rattle.std.specs.List.{list_any}
use Rattle.std.specs.Str.{bytes_eq}
use Rattle.dl_values.specs.declared.col_type.ColType.{ColType}
use Rattle.schema_models.specs.ShapeRules.{is_key}
use Rattle.schema_models.specs.declared.column_def.ColumnDef.{ColumnDef}

abbrev pub is_column_name : List ColumnDef → List ℕ → Bool
is_column_name columns name = list_any (λ c. bytes_eq c.name name) columns

-- one of the first columns, which are keys, has the name
abbrev pub is_key_name : List ColumnDef → List ℕ → Bool
is_key_name [] name = false
is_key_name (c ∷ cs) name = is_key c.role && (bytes_eq c.name name || is_key_name cs name)

-- the type of the column with a name
abbrev pub type_under : List ColumnDef → List ℕ → Option ColType
type_under [] name = None
type_under (c ∷ cs) name = cond (bytes_eq c.name name) (Some c.kind) (type_under cs name)

abbrev pub type_of : List ColumnDef → Option (List ℕ) → Option ColType
type_of columns None = None
type_of columns (Some name) = type_under columns name
