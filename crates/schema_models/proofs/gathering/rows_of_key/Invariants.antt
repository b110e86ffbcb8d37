use Rattle.std.proofs.Common.{◌≡◌, ◌++◌, drop}
use Rattle.std.specs.List.{filter}
use Rattle.dl_values.specs.Order.{row_cmp}
use Rattle.fold_laws.specs.Fold.{has_key}
use Rattle.schema_models.specs.Folds.{key_of}
use Rattle.schema_models.proofs.gathering.rows_of_key.Given as goal

abbrev pub invariant-loop-place : goal.invariant-loop-place
invariant-loop-place l = l.out ++ filter (has_key row_cmp (key_of l.shape) l.key) (drop l.place l.rows) ≡ filter (has_key row_cmp (key_of l.shape) l.key) l.rows
