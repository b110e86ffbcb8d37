-- The first rows of the fold are copied.
use Rattle.std.proofs.Common.{◌≡◌, ◌+◌, ◌++◌, map, length}
use Rattle.schema_models.specs.Folds.{fold_of}
use Rattle.merge_read.specs.Lists.{joined, stored}
use Rattle.merge_read.proofs.reading.read_all.Given as goal

abbrev pub invariant-loop-alloc : goal.invariant-loop-alloc
invariant-loop-alloc g l = record {
  so_far : l.all ++ l.merge.left ≡ fold_of l.shape (joined (map (λ x. g.R.SortedRows.rows x) l.lists));
  counted : l.steps + l.merge.unread ≡ l.initial.steps + stored (map (λ x. g.R.SortedRows.rows x) l.lists);
}

abbrev pub decreases-loop-alloc : goal.decreases-loop-alloc
decreases-loop-alloc g l = length l.merge.left
