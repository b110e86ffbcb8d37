-- No reply has a float.
use Rattle.std.proofs.Common.{◌≡◌, ℕ, List, [], ◌∷◌, map, false, refl, pos, negsuc, Some, None}
use Rattle.std.specs.List.{zip}
use Rattle.serde_json.specs.View.{items_of}
use Rattle.serde_json.specs.Written.{has_float, items_have_float}
use Rattle.dl_values.specs.declared.cell.Cell.{Cell}
use Rattle.dl_values.specs.declared.cell.Cell.TheVariants as cell
use Rattle.dl_values.specs.declared.result_set.ResultSet.{ResultSet}
use Rattle.reply_json.specs.Loads.{load_json, began, used}
use Rattle.reply_json.specs.declared.load_report.LoadReport.{LoadReport}
use Rattle.reply_json.specs.declared.load_report.LoadReport.TheVariants as report
use Rattle.reply_json.specs.Results.{cell_json, row_json, column_json, result_json}

pub load_has_no_float : (r : LoadReport) → has_float (load_json r) ≡ false
unfolding began used
load_has_no_float (report.Began label bytes message filtered loaded total status txn) = refl
load_has_no_float (report.Used label job state message txn) = refl
load_has_no_float (report.Refused (Some label) message) = refl
load_has_no_float (report.Refused None message) = refl

cell_has_no_float : (c : Cell) → has_float (cell_json c) ≡ false
cell_has_no_float cell.Null = refl
cell_has_no_float (cell.Int (pos n)) = refl
cell_has_no_float (cell.Int (negsuc n)) = refl
cell_has_no_float (cell.Day d) = refl
cell_has_no_float (cell.Text t) = refl

row_has_no_float : (cs : List Cell) → items_have_float (items_of (map cell_json cs)) ≡ false
row_has_no_float [] = refl
row_has_no_float (c ∷ cs) = rw (cell_has_no_float c) (row_has_no_float cs)

rows_have_no_float : (rows : List (List Cell)) → items_have_float (items_of (map row_json rows)) ≡ false
rows_have_no_float [] = refl
rows_have_no_float (r ∷ rows) = rw (row_has_no_float r) (rows_have_no_float rows)

columns_have_no_float : (columns : List (List ℕ × List ℕ)) → items_have_float (items_of (map column_json columns)) ≡ false
columns_have_no_float [] = refl
columns_have_no_float (c ∷ cs) = columns_have_no_float cs

pub result_has_no_float : (set : ResultSet) → has_float (result_json set) ≡ false
result_has_no_float set = rw (rows_have_no_float set.rows) (rw (columns_have_no_float (zip set.names.items set.types.items)) refl)
