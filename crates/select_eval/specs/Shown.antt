-- The rows that an answer shows of rows (this project's own).
use Rattle.std.specs.Prelude.{◌≡◌, List, ◌++◌}
use Rattle.dl_values.specs.declared.cell.Cell.{Cell}
use Rattle.sql_text.specs.declared.query.Item.{Item}
use Rattle.sql_text.specs.declared.query.Query.{Query}
use Rattle.select_defs.specs.Orders.{limited, ordered}

-- in the order of the answer, and as many as are asked for
abbrev pub shown : List Item → Query → List (List Cell) → List (List Cell)
shown items q rows = limited q.limit (ordered items q.order rows)

-- whatever rows follow, the same rows are shown of both
abbrev pub ShowAlike : List Item → Query → List (List Cell) → List (List Cell) → Type 0
ShowAlike items q xs ys = (rest : List (List Cell)) → shown items q (xs ++ rest) ≡ shown items q (ys ++ rest)
