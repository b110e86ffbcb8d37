-- The result of a query that reads all columns, by its parts.
use Rattle.std.proofs.Common.{◌≡◌, ◌∙◌, ℕ, List, [], ◌∷◌, map, refl, ap}
use Rattle.std.specs.Prelude.{codes}
use Rattle.std.specs.declared.sync.Arc.{Arc}
use Rattle.std.specs.List.{AllByRecursion, flat_map, zip}
use Rattle.serde_json.specs.Data.{Data, string}
use Rattle.reply_json.specs.Texts.{object_of}
use Rattle.reply_json.specs.Results.{column_json, list_json, result_json, row_json, success_json}
use Rattle.front_defs.specs.Words.{type_text}
use Rattle.dl_values.specs.declared.cell.Cell.{Cell}
use Rattle.dl_values.specs.declared.result_set.ResultSet.{ResultSet}
use Rattle.merge_read.specs.Lists.{AreSortedLists}
use Rattle.rowsets.specs.RowsetView.{RowsetView, IsListOf, rowset_rows}
use Rattle.schema_models.specs.Folds.{fold_of}
use Rattle.schema_models.specs.ShapeView.{ShapeView}
use Rattle.schema_models.specs.declared.column_def.ColumnDef.{ColumnDef}
use Rattle.load_server.specs.Results.{all_json, shown_column}

columns_same : (columns : List ColumnDef) → zip (map (λ c. c.name) columns) (map (λ c. type_text c.kind) columns) ≡ map shown_column columns
columns_same [] = refl
columns_same (c ∷ cs) = ap (λ (l : List (List ℕ × List ℕ)). shown_column c ∷ l) (columns_same cs)

abbrev json_by : List (List Cell) → List (List ℕ × List ℕ) → Data
json_by rows columns = success_json (object_of (
    (codes "data", list_json row_json rows)
    ∷ (codes "meta", list_json column_json columns)
    ∷ (codes "type", string (codes "result_set"))
    ∷ []))

pub all_same : (shape : ShapeView) (lists : List (List (List Cell))) (columns : List ColumnDef) (set : ResultSet) → columns ≡ shape.columns → set.names.items ≡ map (λ c. c.name) columns → set.types.items ≡ map (λ c. type_text c.kind) columns → set.rows ≡ fold_of shape (flat_map (λ l. l) lists) → result_json set ≡ all_json shape lists
unfolding all_json
all_same shape lists columns set e n t r =
    ap (λ (rows : List (List Cell)). json_by rows (zip set.names.items set.types.items)) r
    ∙ ap (λ (l : List (List ℕ)). json_by (fold_of shape (flat_map (λ l. l) lists)) (zip l set.types.items)) n
    ∙ ap (λ (l : List (List ℕ)). json_by (fold_of shape (flat_map (λ l. l) lists)) (zip (map (λ c. c.name) columns) l)) t
    ∙ ap (json_by (fold_of shape (flat_map (λ l. l) lists))) (columns_same columns ∙ ap (map shown_column) e)

-- the lists that a reply gives are read as they are
pub lists_sorted : {Z : Type 0} (shape : ShapeView) (lists : List (Arc RowsetView Z)) → AllByRecursion (λ l. IsListOf shape l.value) lists → AreSortedLists shape (map (λ l. rowset_rows l.value) lists)
lists_sorted shape [] all = tt
lists_sorted shape (l ∷ ls) all = (record { rows = all.0.sorted.rows; rising = all.0.sorted.rising }, lists_sorted shape ls all.1)
