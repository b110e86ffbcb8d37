-- The result of a query that reads all columns (this project's own, after the Apache Doris documentation, "HTTP API").
use Rattle.std.specs.Prelude.{ℕ, List, [], ◌∷◌, codes, map}
use Rattle.std.specs.List.{flat_map}
use Rattle.serde_json.specs.Data.{Data, string}
use Rattle.reply_json.specs.Texts.{object_of}
use Rattle.reply_json.specs.Results.{list_json, row_json, column_json, success_json}
use Rattle.front_defs.specs.Words.{type_text}
use Rattle.dl_values.specs.declared.cell.Cell.{Cell}
use Rattle.schema_models.specs.Folds.{fold_of}
use Rattle.schema_models.specs.ShapeView.{ShapeView}
use Rattle.schema_models.specs.declared.column_def.ColumnDef.{ColumnDef}

-- the name and the type of a column, as a result has them
abbrev pub shown_column : ColumnDef → List ℕ × List ℕ
shown_column column = (column.name, type_text column.kind)

-- the fold of stored lists by a shape, with all its columns
unfoldable pub all_json : ShapeView → List (List (List Cell)) → Data
all_json shape lists = success_json (object_of (
    (codes "data", list_json row_json (fold_of shape (flat_map (λ l. l) lists)))
    ∷ (codes "meta", list_json column_json (map shown_column shape.columns))
    ∷ (codes "type", string (codes "result_set"))
    ∷ []))
