-- What stands in a row under the name of a column: positions move where columns change, and names stay.
use Rattle.std.specs.Prelude.{ℕ, cond, List, [], ◌∷◌, Option, Some, None, map}
use Rattle.std.specs.Str.{bytes_eq}
use Rattle.dl_values.specs.declared.cell.Cell.{Cell}
use Rattle.schema_models.specs.declared.column_def.ColumnDef.{ColumnDef}

-- the names of columns, in their order
abbrev pub names_of : List ColumnDef → List (List ℕ)
names_of columns = map (λ c. c.name) columns

-- the cell of a row under a name, where a column of these names has it
abbrev pub cell_under : List (List ℕ) → List ℕ → List Cell → Option Cell
cell_under [] name row = None
cell_under (n ∷ ns) name [] = None
cell_under (n ∷ ns) name (x ∷ xs) = cond (bytes_eq n name) (Some x) (cell_under ns name xs)
