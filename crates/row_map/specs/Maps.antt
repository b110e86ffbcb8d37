-- Row maps: a row converts column by column, or fails at the first column whose cast gives nothing or whose null has no place (Apache Doris documentation, "ALTER TABLE COLUMN"; which casts there are is this project's own).
use Rattle.std.specs.Prelude.{◌≡◌, ℕ, Bool, true, false, cond, not, ◌&&◌, List, [], ◌∷◌, ◌++◌, Option, Some, None, map, find, is_some, is_none, nat_eq, unwrap_or}
use Rattle.std.specs.List.{AllByRecursion, flat_map, list_any}
use Rattle.std.specs.Option.{option_map}
use Rattle.std.specs.Ordering.{is_eq}
use Rattle.std.specs.Str.{bytes_eq}
use Rattle.dl_values.specs.declared.cell.Cell.{Cell}
use Rattle.dl_values.specs.declared.cell.Cell.TheVariants as cell
use Rattle.dl_values.specs.declared.col_type.ColType.{ColType}
use Rattle.dl_values.specs.declared.col_type.ColType.TheVariants as kind
use Rattle.dl_values.specs.declared.agg_kind.AggKind.TheVariants as agg
use Rattle.dl_values.specs.Order.{row_cmp}
use Rattle.dl_values.specs.Read.{read}
use Rattle.dl_values.specs.Write.{cell_text}
use Rattle.schema_models.specs.Folds.{fold_of, key_of}
use Rattle.schema_models.specs.ShapeRules.{IsShape, is_key}
use Rattle.schema_models.specs.ShapeView.{ShapeView}
use Rattle.schema_models.specs.declared.column_def.ColumnDef.{ColumnDef}
use Rattle.schema_models.specs.declared.model.Model.{Model}
use Rattle.schema_models.specs.declared.model.Model.TheVariants as model
use Rattle.schema_models.specs.declared.role.Role.{Role}
use Rattle.schema_models.specs.declared.role.Role.TheVariants as role
use Rattle.schema_models.specs.CellsByName.{cell_under, names_of}
use Rattle.row_map.specs.declared.map.Origin.{Origin}
use Rattle.row_map.specs.declared.map.Origin.TheVariants as origin
use Rattle.row_map.specs.declared.map.RowMap.{RowMap}

abbrev pub same_type : ColType → ColType → Bool
same_type kind.TinyInt kind.TinyInt = true
same_type kind.SmallInt kind.SmallInt = true
same_type kind.Int kind.Int = true
same_type kind.BigInt kind.BigInt = true
same_type kind.Date kind.Date = true
same_type (kind.Varchar m) (kind.Varchar n) = nat_eq m n
same_type _ _ = false

-- a null casts to null, and a cell of the same type to itself; others as their text is read
abbrev pub cast_cell : ColType → ColType → Cell → Option Cell
cast_cell from to cell.Null = Some cell.Null
cast_cell from to x = cond (same_type from to) (Some x) (read to (cell_text x))

abbrev pub column_named : List ℕ → List ColumnDef → Option ColumnDef
column_named name columns = find (λ c. bytes_eq c.name name) columns

-- a null stands only in a column that takes one
abbrev pub standing : Bool → Option Cell → Option Cell
standing nullable None = None
standing nullable (Some cell.Null) = cond nullable (Some cell.Null) None
standing nullable (Some x) = Some x

abbrev pub cast_by : Option ColumnDef → ColumnDef → Option Cell → Option Cell
cast_by None target o = None
cast_by (Some c) target None = None
cast_by (Some c) target (Some x) = standing target.nullable (cast_cell c.kind target.kind x)

-- the cell of a target column
abbrev pub cell_by : List ColumnDef → ColumnDef → Origin → List Cell → Option Cell
cell_by columns target (origin.From name) row = cast_by (column_named name columns) target (cell_under (names_of columns) name row)
cell_by columns target (origin.Constant x) row = standing target.nullable (Some x)

abbrev pub put_first : Option Cell → Option (List Cell) → Option (List Cell)
put_first None rest = None
put_first (Some x) rest = option_map (λ (r : List Cell). x ∷ r) rest

abbrev pub cells_by : List ColumnDef → List ColumnDef → List Origin → List Cell → Option (List Cell)
cells_by columns [] origins row = Some []
cells_by columns (c ∷ cs) [] row = None
cells_by columns (c ∷ cs) (o ∷ os) row = put_first (cell_by columns c o row) (cells_by columns cs os row)

-- the target row, if there is one
abbrev pub conv_row : RowMap → List Cell → Option (List Cell)
conv_row m row = cells_by m.from.columns m.to.columns m.columns row

-- the first target column that fails
abbrev pub bad_in : List ColumnDef → List ColumnDef → List Origin → List Cell → Option (List ℕ)
bad_in columns [] origins row = None
bad_in columns (c ∷ cs) [] row = Some c.name
bad_in columns (c ∷ cs) (o ∷ os) row = cond (is_some (cell_by columns c o row)) (bad_in columns cs os row) (Some c.name)

abbrev pub bad_column : RowMap → List Cell → Option (List ℕ)
bad_column m row = bad_in m.from.columns m.to.columns m.columns row

abbrev pub converts_row : RowMap → List Cell → Bool
converts_row m row = is_some (conv_row m row)

-- each row converts
abbrev pub Converts : RowMap → List (List Cell) → Type 0
Converts m rows = AllByRecursion (λ r. converts_row m r ≡ true) rows

-- a row that does not
abbrev pub is_bad : RowMap → List (List Cell) → Bool
is_bad m rows = list_any (λ r. not (converts_row m r)) rows

-- the first row that does not convert, and its first column that fails
pub record BadRow : Type 0 where
  pub row : List Cell
  pub column : List ℕ

abbrev pub bad_of : RowMap → List (List Cell) → Option BadRow
bad_of m rows = option_map (λ r. record { row = r; column = unwrap_or (bad_column m r) [] }) (find (λ r. not (converts_row m r)) rows)

-- the converted rows; of a row that does not convert nothing is said
abbrev pub mapped_row : RowMap → List Cell → List Cell
mapped_row m row = unwrap_or (conv_row m row) []

abbrev pub conv : RowMap → List (List Cell) → List (List Cell)
conv m rows = map (mapped_row m) rows

-- What an admitted map keeps: converting a longer fold joins the converted parts, and converted rows of different keys change places under the fold of the target.
pub record Joins (m : RowMap) : Type 0 where
  pub longer : (xs ys : List (List Cell)) → Converts m (fold_of m.from xs) → Converts m ys → Converts m (fold_of m.from (xs ++ ys))
  pub joins : (xs ys : List (List Cell)) → Converts m (fold_of m.from xs) → Converts m ys → fold_of m.to (conv m (fold_of m.from (xs ++ ys))) ≡ fold_of m.to (conv m (fold_of m.from xs) ++ conv m ys)
  pub swaps : (x y : List Cell) → is_eq (row_cmp (key_of m.from x) (key_of m.from y)) ≡ false → converts_row m x ≡ true → converts_row m y ≡ true → (zs : List (List Cell)) → fold_of m.to (mapped_row m y ∷ mapped_row m x ∷ zs) ≡ fold_of m.to (mapped_row m x ∷ mapped_row m y ∷ zs)

-- The map of a rollup takes columns of the base by name, as they stand there.
abbrev pub picked_one : Option ColumnDef → List ColumnDef
picked_one None = []
picked_one (Some c) = c ∷ []

abbrev pub picked : List ColumnDef → List (List ℕ) → List ColumnDef
picked columns names = flat_map (λ n. picked_one (column_named n columns)) names

abbrev pub rollup_shape : ShapeView → List (List ℕ) → ShapeView
rollup_shape s names = record { model = s.model; columns = picked s.columns names }

abbrev pub by_names : List (List ℕ) → List Origin
by_names names = map (λ n. origin.From n) names

abbrev pub rollup_map : ShapeView → List (List ℕ) → RowMap
rollup_map s names = record { from = s; to = rollup_shape s names; columns = by_names names }

-- A target of a Unique table, or of one with a column that takes the newer value, has each key column.
abbrev pub replaces : Role → Bool
replaces (role.Agg agg.Replace) = true
replaces (role.Agg agg.ReplaceIfNotNull) = true
replaces _ = false

abbrev pub needs_keys : ShapeView → Bool
needs_keys s = needs_by s.model
  where
    needs_by : Model → Bool
    needs_by model.Unique = true
    needs_by model.Duplicate = false
    needs_by model.Aggregate = list_any (λ (c : ColumnDef). replaces c.role) s.columns

-- the first column of a list of names that the base does not have
abbrev pub unknown_column : ShapeView → List (List ℕ) → Option (List ℕ)
unknown_column s names = find (λ n. is_none (column_named n s.columns)) names

-- the first key column that the target lacks and would need
abbrev pub lacking_key : ShapeView → List (List ℕ) → Option ColumnDef
lacking_key s names = cond (needs_keys s) (find (λ (c : ColumnDef). is_key c.role && not (list_any (bytes_eq c.name) names)) s.columns) None

-- A rollup of these columns is admitted.
pub record Admits (s : ShapeView) (names : List (List ℕ)) : Type 0 where
  pub base : IsShape s
  pub known : unknown_column s names ≡ None
  pub shape : IsShape (rollup_shape s names)
  pub keyed : lacking_key s names ≡ None

-- The law of conversion, as far as rollups need it. Its proof is that of the crate of row maps.
abbrev pub AdmittedRollupsJoin : Type 0
AdmittedRollupsJoin = (s : ShapeView) (names : List (List ℕ)) → Admits s names → Joins (rollup_map s names)
