-- Groups that grow by rows: each key with the cells of its group, by ascending key (this project's own).
use Rattle.std.specs.Prelude.{ℕ, List, [], ◌∷◌, Option, Some, None}
use Rattle.std.specs.BTreeMap.{insert_entry, is_at}
use Rattle.std.specs.Map.{lookup, set_value}
use Rattle.dl_values.specs.Order.{row_cmp}
use Rattle.dl_values.specs.declared.cell.Cell.{Cell}
use Rattle.select_eval.specs.Outputs.{begun, cells_in, grown}
use Rattle.select_eval.specs.declared.output.Output.{Output}

-- how rows are grouped: where the cells of the key stand, and what becomes of the select list
pub record Grouping : Type 0 where
  pub places : List (Option ℕ)
  pub outputs : List Output

abbrev pub Entries : Type 0
Entries = List (List Cell × List Cell)

abbrev pub key_in : Grouping → List Cell → List Cell
key_in g row = cells_in g.places row

-- the groups with a row more: in the group of its key, or in a new one
abbrev pub put_by : Grouping → List Cell → Entries → Option (List Cell) → Entries
put_by g row es None = insert_entry row_cmp es (key_in g row) (grown g.outputs (begun g.outputs (key_in g row)) row)
put_by g row es (Some xs) = set_value (is_at (row_cmp (key_in g row))) es (grown g.outputs xs row)

abbrev pub put : Grouping → Entries → List Cell → Entries
put g es row = put_by g row es (lookup (is_at (row_cmp (key_in g row))) es)

-- the groups with these rows more, one after the other
abbrev pub put_all : Grouping → Entries → List (List Cell) → Entries
put_all g es [] = es
put_all g es (row ∷ rows) = put_all g (put g es row) rows

-- the groups before any row: none, or without GROUP BY the one of all rows
abbrev pub first_by : Grouping → List (Option ℕ) → Entries
first_by g [] = ([], begun g.outputs []) ∷ []
first_by g (p ∷ ps) = []

abbrev pub first_groups : Grouping → Entries
first_groups g = first_by g g.places
