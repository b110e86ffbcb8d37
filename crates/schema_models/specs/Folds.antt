-- The fold of rows by the model of a table (Apache Doris documentation, "Data Models"): Duplicate keeps each row, sorted
-- by whole row; Unique and Aggregate have one row for each key, by ascending key, with the merge of the rows of that key
-- in list order.
use Rattle.std.specs.Prelude.{ℕ, List, [], ◌∷◌, take}
use Rattle.agg_functions.specs.Merge.{merged_cell}
use Rattle.dl_values.specs.Order.{row_cmp}
use Rattle.dl_values.specs.declared.cell.Cell.{Cell}
use Rattle.fold_laws.specs.Fold.{folded, merged}
use Rattle.schema_models.specs.ShapeView.{ShapeView, key_count}
use Rattle.schema_models.specs.declared.column_def.ColumnDef.{ColumnDef}
use Rattle.schema_models.specs.declared.model.Model.{Model}
use Rattle.schema_models.specs.declared.model.Model.TheVariants as model
use Rattle.schema_models.specs.declared.role.Role.{Role}
use Rattle.schema_models.specs.declared.role.Role.TheVariants as role

-- the cell of an old one and a newer one: a key stays, a plain value is the newer one, and others merge by their kind
abbrev pub merged_by_role : Role → Cell → Cell → Cell
merged_by_role role.Key old new = old
merged_by_role role.Plain old new = new
merged_by_role (role.Agg k) old new = merged_cell k old new

-- the row of an old one and a newer one, column by column
abbrev pub merged_row : List ColumnDef → List Cell → List Cell → List Cell
merged_row [] old new = []
merged_row (c ∷ cs) [] new = []
merged_row (c ∷ cs) (x ∷ xs) [] = []
merged_row (c ∷ cs) (x ∷ xs) (y ∷ ys) = merged_by_role c.role x y ∷ merged_row cs xs ys

-- the key of a row of n key columns: its first n cells, and in the Duplicate model all of them
abbrev pub key_in : Model → ℕ → List Cell → List Cell
key_in model.Duplicate n row = row
key_in model.Unique n row = take n row
key_in model.Aggregate n row = take n row

abbrev pub key_of : ShapeView → List Cell → List Cell
key_of s row = key_in s.model (key_count s.columns) row

-- what the rows of one key come to: all of them, or their merge
abbrev pub gathered_in : Model → List ColumnDef → List (List Cell) → List (List Cell)
gathered_in model.Duplicate columns rows = rows
gathered_in model.Unique columns rows = merged (merged_row columns) rows
gathered_in model.Aggregate columns rows = merged (merged_row columns) rows

abbrev pub gathered : ShapeView → List (List Cell) → List (List Cell)
gathered s rows = gathered_in s.model s.columns rows

-- the fold of rows
abbrev pub fold_of : ShapeView → List (List Cell) → List (List Cell)
fold_of s rows = folded row_cmp (key_of s) (gathered s) rows
