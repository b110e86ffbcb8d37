-- How many of the first cells of a row are its key.
use Rattle.std.specs.Prelude.{ℕ, length}
use Rattle.schema_models.specs.ShapeView.{ShapeView, key_count}
use Rattle.schema_models.specs.declared.model.Model.{Model}
use Rattle.schema_models.specs.declared.model.Model.TheVariants as model

-- all of them in the Duplicate model
abbrev pub width_in : Model → ℕ → ℕ → ℕ
width_in model.Duplicate keys columns = columns
width_in model.Unique keys columns = keys
width_in model.Aggregate keys columns = keys

abbrev pub key_width : ShapeView → ℕ
key_width s = width_in s.model (key_count s.columns) (length s.columns)
