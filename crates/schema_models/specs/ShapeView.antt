-- What a shape is: a model and columns, keys first.
use Rattle.std.specs.Prelude.{ℕ, ◌+◌, List, [], ◌∷◌}
use Rattle.schema_models.specs.declared.column_def.ColumnDef.{ColumnDef}
use Rattle.schema_models.specs.declared.model.Model.{Model}
use Rattle.schema_models.specs.declared.role.Role.{Role}
use Rattle.schema_models.specs.declared.role.Role.TheVariants as role

-- a model and its columns in their order
pub record ShapeView : Type 0 where
  pub model : Model
  pub columns : List ColumnDef

-- how many of the first columns are keys
abbrev pub more_keys : Role → ℕ → ℕ
more_keys role.Key n = n + 1
more_keys role.Plain n = 0
more_keys (role.Agg k) n = 0

abbrev pub key_count : List ColumnDef → ℕ
key_count [] = 0
key_count (c ∷ cs) = more_keys c.role (key_count cs)
