-- What of a shape stands beside stored rows.
use Rattle.std.specs.Prelude.{ℕ, List}
use Rattle.columnar.specs.declared.marks.ColumnMark.{ColumnMark}
use Rattle.schema_models.specs.declared.model.Model.{Model}

-- the model, how many columns are keys, and of each column its type and whether it is nullable
pub record MarksView : Type 0 where
  pub model : Model
  pub keys : ℕ
  pub columns : List ColumnMark
