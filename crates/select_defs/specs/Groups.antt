-- The rows of an answer before they are ordered: one for each row that passed, or for each group of them (Apache Doris
-- documentation, "SELECT", "GROUP BY").
use Rattle.std.specs.Prelude.{ℕ, cond, List, [], ◌∷◌, length, map, unwrap_or}
use Rattle.std.specs.List.{filter}
use Rattle.dl_values.specs.Order.{row_cmp}
use Rattle.dl_values.specs.declared.cell.Cell.{Cell}
use Rattle.dl_values.specs.declared.cell.Cell.TheVariants as cell
use Rattle.fold_laws.specs.Fold.{distinct, has_key}
use Rattle.schema_models.specs.CellsByName.{cell_under}
use Rattle.schema_models.specs.ShapeView.{ShapeView}
use Rattle.sql_text.specs.declared.query.Item.{Item}
use Rattle.sql_text.specs.declared.query.Item.TheVariants as item
use Rattle.sql_text.specs.declared.query.Query.{Query}
use Rattle.select_defs.specs.Aggregates.{aggregate, count_cell}
use Rattle.select_defs.specs.Columns.{cell_named}
use Rattle.select_defs.specs.Filters.{selected}
use Rattle.select_defs.specs.Items.{items_of}
use Rattle.select_defs.specs.Refusals.{is_grouped}

-- the cells of a row by which it is grouped
abbrev pub group_key : ShapeView → List (List ℕ) → List Cell → List Cell
group_key s group row = map (λ name. cell_named s name row) group

-- the keys of the groups: without GROUP BY all rows are one group, also where there is none
abbrev pub group_keys : ShapeView → List (List ℕ) → List (List Cell) → List (List Cell)
group_keys s [] rows = [] ∷ []
group_keys s (name ∷ names) rows = distinct row_cmp (group_key s (name ∷ names)) rows

-- the rows of one group
abbrev pub rows_of_group : ShapeView → List (List ℕ) → List Cell → List (List Cell) → List (List Cell)
rows_of_group s group k rows = filter (has_key row_cmp (group_key s group) k) rows

-- the cell of an item for a group: of its key, or an aggregate over its rows
abbrev pub group_cell : ShapeView → List (List ℕ) → List Cell → List (List Cell) → Item → Cell
group_cell s group k rows (item.Column a) = unwrap_or (cell_under group a k) cell.Null
group_cell s group k rows (item.Agg f a) = aggregate f (map (cell_named s a) rows)
group_cell s group k rows item.CountAll = count_cell (length rows)

unfoldable pub group_row : ShapeView → List (List ℕ) → List Item → List (List Cell) → List Cell → List Cell
group_row s group items rows k = map (group_cell s group k (rows_of_group s group k rows)) items

abbrev pub group_rows : ShapeView → List (List ℕ) → List Item → List (List Cell) → List (List Cell)
group_rows s group items rows = map (group_row s group items rows) (group_keys s group rows)

-- the cell of an item for one row; an aggregate is one of a group
abbrev pub plain_cell : ShapeView → List Cell → Item → Cell
plain_cell s row (item.Column a) = cell_named s a row
plain_cell s row _ = cell.Null

unfoldable pub plain_row : ShapeView → List Item → List Cell → List Cell
plain_row s items row = map (plain_cell s row) items

-- the rows of the answer of these rows
abbrev pub output_rows : ShapeView → ShapeView → Query → List (List Cell) → List (List Cell)
output_rows base s q rows =
    cond (is_grouped base q)
    (group_rows s q.group (items_of base q) (selected base s q rows))
    (map (plain_row s (items_of base q)) (selected base s q rows))
