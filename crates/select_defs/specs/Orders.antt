-- The order and the limit of an answer: by the keys of ORDER BY, each in its direction, and then by the whole row (Apache
-- Doris documentation, "SELECT", "ORDER BY" and "LIMIT"; that ties are by the whole row is this project's own).
use Rattle.std.specs.Prelude.{ℕ, ℤ, pos, negsuc, ◌-◌, Bool, true, false, List, [], ◌∷◌, Option, Some, None, slice_index_or, take, unwrap_or}
use Rattle.std.specs.List.{position}
use Rattle.std.specs.Ordering.{ordering_reverse, ordering_then}
use Rattle.std.specs.declared.cmp.Ordering.{Ordering}
use Rattle.dl_values.specs.Order.{cell_cmp, row_cmp}
use Rattle.dl_values.specs.declared.cell.Cell.{Cell}
use Rattle.dl_values.specs.declared.cell.Cell.TheVariants as cell
use Rattle.fold_laws.specs.Fold.{folded}
use Rattle.sql_text.specs.declared.query.Item.{Item}
use Rattle.sql_text.specs.declared.query.OrderBy.{OrderBy}
use Rattle.sql_text.specs.declared.query.OrderBy.TheVariants as by
use Rattle.sql_text.specs.declared.query.OrderKey.{OrderKey}
use Rattle.select_defs.specs.Items.{same_item}

-- the place of a key in the select list; one that has none is refused before
abbrev pub place_from : ℤ → ℕ
place_from (pos n) = n - 1
place_from (negsuc n) = 0

abbrev pub place_by : List Item → OrderBy → ℕ
place_by items (by.Item i) = unwrap_or (position (same_item i) items) 0
place_by items (by.Position p) = place_from p

-- descending turns the order around
abbrev pub directed : Bool → Ordering → Ordering
directed true o = ordering_reverse o
directed false o = o

abbrev pub cell_at : List Cell → ℕ → Cell
cell_at row n = slice_index_or row n cell.Null

abbrev pub key_cmp : List Item → OrderKey → List Cell → List Cell → Ordering
key_cmp items k a b = directed k.descending (cell_cmp (cell_at a (place_by items k.by)) (cell_at b (place_by items k.by)))

-- by the first key, where that ties by the next, and last by the whole row
abbrev pub order_cmp : List Item → List OrderKey → List Cell → List Cell → Ordering
order_cmp items [] a b = row_cmp a b
order_cmp items (k ∷ ks) a b = ordering_then (key_cmp items k a b) (order_cmp items ks a b)

-- the rows in that order: only equal rows tie
abbrev pub ordered : List Item → List OrderKey → List (List Cell) → List (List Cell)
ordered items keys rows = folded (order_cmp items keys) (λ row. row) (λ same. same) rows

-- at most so many of the first rows
abbrev pub limited : Option ℕ → List (List Cell) → List (List Cell)
limited None rows = rows
limited (Some n) rows = take n rows
