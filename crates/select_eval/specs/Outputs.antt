-- The select list of a query whose columns were looked up once, and what a row of stored lists adds to a group (this project's
-- own).
use Rattle.std.specs.Prelude.{ℕ, List, [], ◌∷◌, Option, None, map}
use Rattle.std.specs.List.{position}
use Rattle.std.specs.Str.{bytes_eq}
use Rattle.agg_functions.specs.Merge.{merged_cell}
use Rattle.dl_values.specs.declared.agg_kind.AggKind.TheVariants as merge
use Rattle.dl_values.specs.declared.cell.Cell.{Cell}
use Rattle.schema_models.specs.ShapeView.{ShapeView}
use Rattle.sql_text.specs.declared.query.Item.{Item}
use Rattle.sql_text.specs.declared.query.Item.TheVariants as item
use Rattle.select_defs.specs.Aggregates.{aggregate, count_cell}
use Rattle.select_defs.specs.Laws.{joined}
use Rattle.select_eval.specs.Places.{cell_in, place_of}
use Rattle.select_eval.specs.declared.output.Output.{Output}
use Rattle.select_eval.specs.declared.output.Output.TheVariants as output

-- ---- rows that are not grouped

-- the place of the column of an item; an aggregate has none
abbrev pub plain_place : ShapeView → Item → Option ℕ
plain_place s (item.Column a) = place_of s a
plain_place s _ = None

abbrev pub cells_in : List (Option ℕ) → List Cell → List Cell
cells_in places row = map (cell_in row) places

-- ---- groups

-- the place of a name among those by which rows are grouped
abbrev pub place_in : List (List ℕ) → List ℕ → Option ℕ
place_in group name = position (λ other. bytes_eq other name) group

abbrev pub output_of : ShapeView → List (List ℕ) → Item → Output
output_of s group (item.Column a) = output.Key (place_in group a)
output_of s group (item.Agg f a) = output.Agg f (place_of s a)
output_of s group item.CountAll = output.CountAll

-- the cell of a group of a key that has no row yet
abbrev pub fresh : List Cell → Output → Cell
fresh k (output.Key p) = cell_in k p
fresh k (output.Agg f p) = aggregate f []
fresh k output.CountAll = count_cell 0

-- the cell with a row more
abbrev pub more : Output → Cell → List Cell → Cell
more (output.Key p) x row = x
more (output.Agg f p) x row = joined f x (aggregate f (cell_in row p ∷ []))
more output.CountAll x row = merged_cell merge.Sum x (count_cell 1)

abbrev pub begun : List Output → List Cell → List Cell
begun os k = map (fresh k) os

abbrev pub grown : List Output → List Cell → List Cell → List Cell
grown os [] row = []
grown [] (x ∷ xs) row = x ∷ xs
grown (o ∷ os) (x ∷ xs) row = more o x row ∷ grown os xs row

-- the cells with these rows more, one after the other
abbrev pub grown_by : List Output → List Cell → List (List Cell) → List Cell
grown_by os xs [] = xs
grown_by os xs (row ∷ rows) = grown_by os (grown os xs row) rows
