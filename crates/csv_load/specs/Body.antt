-- The rows of a body and what is counted (Apache Doris documentation, "Data Loading", "Stream Load": `column_separator`,
-- `max_filter_ratio`, `strict_mode`).
use Rattle.std.specs.Prelude.{ℕ, ◌&&◌, not, List, [], ◌∷◌, ◌++◌, Bool, true, Option, Some, None, is_none, if◌then◌else◌, length}
use Rattle.std.specs.List.{filter_map, count_by, position_from}
use Rattle.std.specs.Str.{bytes_eq}
use Rattle.dl_values.specs.Read.{read}
use Rattle.dl_values.specs.Write.{null_text}
use Rattle.dl_values.specs.declared.cell.Cell.{Cell}
use Rattle.dl_values.specs.declared.cell.Cell.TheVariants as cell
use Rattle.schema_models.specs.ShapeView.{ShapeView}
use Rattle.schema_models.specs.declared.column_def.ColumnDef.{ColumnDef}
use Rattle.csv_load.specs.Records.{records}
use Rattle.csv_load.specs.declared.options.Options.{Options}
use Rattle.csv_load.specs.declared.parsed.Parsed.{Parsed}

-- null, where a column may be null
abbrev pub null_if : Bool → Option Cell
null_if may = if may then Some cell.Null else None

-- what a text reads as, or null in its place
abbrev pub or_null : Bool → Option Cell → Option Cell
or_null may None = null_if may
or_null may (Some c) = Some c

-- the cell that a column takes from a field, if it takes one: null from `\N`, else what the field reads as, else null
-- where strict mode is off; null only where the column is nullable
abbrev pub cell_of : Bool → ColumnDef → List ℕ → Option Cell
cell_of strict column field =
    if bytes_eq field null_text then null_if column.nullable
    else or_null (not strict && column.nullable) (read column.kind field)

-- cells and one more behind them, where it is there
abbrev pub with_cell : List Cell → Option Cell → Option (List Cell)
with_cell cells None = None
with_cell cells (Some c) = Some (cells ++ c ∷ [])

-- a cell in front of the others of its row
abbrev pub onto_row : Option Cell → Option (List Cell) → Option (List Cell)
onto_row None row = None
onto_row (Some c) None = None
onto_row (Some c) (Some cs) = Some (c ∷ cs)

-- the cells of a record, which has one field for each column and gives each a cell
unfoldable pub cells_of : Bool → List ColumnDef → List (List ℕ) → Option (List Cell)
cells_of strict [] [] = Some []
cells_of strict [] (field ∷ fields) = None
cells_of strict (column ∷ columns) [] = None
cells_of strict (column ∷ columns) (field ∷ fields) = onto_row (cell_of strict column field) (cells_of strict columns fields)

-- whether a row lies inside, where there is something to lie inside of
abbrev pub is_inside : {I : Type 0} → (I → List Cell → Bool) → Option I → List Cell → Bool
is_inside inside None row = true
is_inside inside (Some layout) row = inside layout row

-- the row, where it lies inside
abbrev pub only_inside : (List Cell → Bool) → Option (List Cell) → Option (List Cell)
only_inside inside None = None
only_inside inside (Some row) = if inside row then Some row else None

-- the row that a record gives; a record that gives none is filtered
abbrev pub row_of : (List Cell → Bool) → Bool → List ColumnDef → List (List ℕ) → Option (List Cell)
row_of inside strict columns fields = only_inside inside (cells_of strict columns fields)

-- the rows that records give, how many there are, how many are filtered, and the first of those, counted from 1
unfoldable pub tally : (List (List ℕ) → Option (List Cell)) → List (List (List ℕ)) → Parsed
tally row_of records = record {
  rows = filter_map row_of records;
  total = length records;
  filtered = count_by (λ r. is_none (row_of r)) records;
  first_bad = position_from (λ r. is_none (row_of r)) 1 records;
}

-- the records of a body, by its options
abbrev pub records_by : Options → List ℕ → List (List (List ℕ))
records_by options bytes = records options.separator bytes

-- what a body gives, for a shape, what its rows have to lie inside of, and options
abbrev pub body : ShapeView → (List Cell → Bool) → Options → List ℕ → Parsed
body shape inside options bytes = tally (row_of inside options.strict shape.columns) (records_by options bytes)
