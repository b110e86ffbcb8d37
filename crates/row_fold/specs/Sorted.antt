-- Rows beside the numbers of their keys.
use Rattle.std.specs.Prelude.{◌≡◌, List, map}
use Rattle.dl_values.specs.declared.cell.Cell.{Cell}
use Rattle.row_fold.specs.declared.keyed.Keyed.{Keyed}
use Rattle.schema_models.specs.Folds.{key_of}
use Rattle.schema_models.specs.ShapeView.{ShapeView, key_count}
use Rattle.schema_models.specs.declared.model.Model.TheVariants as model

-- the rows alone
abbrev pub rows_of : List Keyed → List (List Cell)
rows_of keyed = map (λ k. k.row.now) keyed

-- the key of one
abbrev pub keyed_key : ShapeView → Keyed → List Cell
keyed_key s k = key_of s k.row.now

-- the key of a row is its first cell
abbrev pub IsSingle : ShapeView → Type 0
IsSingle s = (key_count s.columns ≡ 1) × (s.model ≡ model.Duplicate → ⊥)
