use Rattle.std.proofs.Common.{◌≡◌, ◌++◌, drop}
use Rattle.std.specs.List.{filter, flat_map}
use Rattle.dl_values.specs.Order.{row_cmp}
use Rattle.fold_laws.specs.Fold.{has_key, distinct}
use Rattle.schema_models.specs.Folds.{key_of, gathered}
use Rattle.schema_models.proofs.folds.fold.Given as goal

abbrev pub invariant-loop-key : goal.invariant-loop-key
invariant-loop-key l = l.out ++ flat_map (λ k. gathered l.shape (filter (has_key row_cmp (key_of l.shape) k) l.rows)) (drop l.key-index l.key-items)
    ≡ flat_map (λ k. gathered l.shape (filter (has_key row_cmp (key_of l.shape) k) l.rows)) (distinct row_cmp (key_of l.shape) l.rows)
