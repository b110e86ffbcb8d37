use Rattle.std.proofs.Common.{◌≡◌, ◌++◌, ◌∷◌, [], drop}
use Rattle.dl_values.specs.Order.{row_cmp}
use Rattle.fold_laws.specs.Fold.{Ascends}
use Rattle.row_fold.specs.Sorted.{rows_of}
use Rattle.schema_models.specs.Folds.{fold_of, key_of}
use Rattle.row_fold.proofs.merging.merge_runs.Given as goal

abbrev pub invariant-loop-i : goal.invariant-loop-i
invariant-loop-i l = record {
  empty : l.room ≡ [];
  key : key_of l.rule.shape.now l.last.row.now ≡ key_of l.rule.shape.now l.present;
  so_far : l.out ++ fold_of l.rule.shape.now (l.present ∷ rows_of (drop l.i l.sorted)) ≡ fold_of l.rule.shape.now (rows_of l.sorted);
  ascends : Ascends row_cmp (key_of l.rule.shape.now) (l.present ∷ rows_of (drop l.i l.sorted));
}
