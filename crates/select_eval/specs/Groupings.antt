-- How the rows of a shape are grouped for a query (this project's own).
use Rattle.std.specs.Prelude.{ℕ, List, cond, map}
use Rattle.dl_values.specs.declared.cell.Cell.{Cell}
use Rattle.schema_models.specs.ShapeView.{ShapeView}
use Rattle.sql_text.specs.declared.query.Item.{Item}
use Rattle.sql_text.specs.declared.query.Query.{Query}
use Rattle.select_defs.specs.Groups.{group_cell, group_keys, group_rows, plain_row, rows_of_group}
use Rattle.select_defs.specs.Items.{items_of}
use Rattle.select_defs.specs.Refusals.{is_grouped}
use Rattle.select_eval.specs.Grouping.{Entries, Grouping}
use Rattle.select_eval.specs.Outputs.{output_of}
use Rattle.select_eval.specs.Places.{place_of}

abbrev pub grouping_of : ShapeView → List (List ℕ) → List Item → Grouping
grouping_of s group items = record { places = map (place_of s) group; outputs = map (output_of s group) items }

-- a group by its key, with its cells for these rows
abbrev pub cells_of_group : ShapeView → List (List ℕ) → List Item → List (List Cell) → List Cell → List Cell
cells_of_group s group items rows k = map (group_cell s group k (rows_of_group s group k rows)) items

abbrev pub entry_of : ShapeView → List (List ℕ) → List Item → List (List Cell) → List Cell → List Cell × List Cell
entry_of s group items rows k = (k, cells_of_group s group items rows k)

abbrev pub groups_of : ShapeView → List (List ℕ) → List Item → List (List Cell) → Entries
groups_of s group items rows = map (entry_of s group items rows) (group_keys s group rows)

-- the rows of an answer, of the rows that pass
abbrev pub output_rows_of : ShapeView → ShapeView → Query → List (List Cell) → List (List Cell)
output_rows_of base s q rows =
    cond (is_grouped base q)
    (group_rows s q.group (items_of base q) rows)
    (map (plain_row s (items_of base q)) rows)
