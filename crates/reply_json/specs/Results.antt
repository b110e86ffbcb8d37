-- The JSON of a result, its members in the byte order of their names (this project's own, after the Apache Doris
-- documentation, "HTTP API", "Query Execution").
use Rattle.std.specs.Prelude.{ℕ, List, [], ◌∷◌, codes, map}
use Rattle.std.specs.List.{zip}
use Rattle.serde_json.specs.Data.{Data, null, number, string, array}
use Rattle.serde_json.specs.Find.{of_integer}
use Rattle.serde_json.specs.View.{items_of}
use Rattle.dl_values.specs.Days.{day_text}
use Rattle.dl_values.specs.declared.cell.Cell.{Cell}
use Rattle.dl_values.specs.declared.cell.Cell.TheVariants as cell
use Rattle.dl_values.specs.declared.result_set.ResultSet.{ResultSet}
use Rattle.reply_json.specs.Texts.{text_json, count_json, object_of}

-- null, a number, or a string: a day by its text, a text by itself
abbrev pub cell_json : Cell → Data
cell_json cell.Null = null
cell_json (cell.Int z) = number (of_integer z)
cell_json (cell.Day d) = string (day_text d)
cell_json (cell.Text t) = text_json t

abbrev pub list_json : {A : Type 0} → (A → Data) → List A → Data
list_json json xs = array (items_of (map json xs))

abbrev pub row_json : List Cell → Data
row_json cells = list_json cell_json cells

-- a column, by its name and its type
abbrev pub column_json : (List ℕ × List ℕ) → Data
column_json column = object_of (
    (codes "name", text_json column.0)
    ∷ (codes "type", text_json column.1)
    ∷ [])

-- what stands in the answer of a statement that was taken
abbrev pub success_json : Data → Data
success_json answer = object_of (
    (codes "code", count_json 0)
    ∷ (codes "data", answer)
    ∷ (codes "msg", string (codes "success"))
    ∷ [])

-- the rows, and the columns by name and type
abbrev pub result_json : ResultSet → Data
result_json set = success_json (object_of (
    (codes "data", list_json row_json set.rows)
    ∷ (codes "meta", list_json column_json (zip set.names.items set.types.items))
    ∷ (codes "type", string (codes "result_set"))
    ∷ []))

-- the answer of a statement without a result
abbrev pub done_json : Data
done_json = success_json (object_of ((codes "type", string (codes "exec_status")) ∷ []))
