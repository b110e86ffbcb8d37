use Rattle.std.proofs.Common.{◌≡◌, ◌∷◌, [], drop, fold}
use Rattle.fold_laws.specs.Fold.{merged}
use Rattle.schema_models.specs.Folds.{merged_row}
use Rattle.schema_models.proofs.gathering.merge_all.Given as goal

abbrev pub invariant-loop-place : goal.invariant-loop-place
invariant-loop-place l = fold (merged_row l.columns) l.made (drop l.place l.fn.rows) ∷ [] ≡ merged (merged_row l.columns) l.fn.rows
