-- The rows of the key so far are merged.
use Rattle.std.proofs.Common.{◌≡◌, ◌+◌, ◌∷◌, true, length}
use Rattle.schema_models.specs.Folds.{fold_of, key_of}
use Rattle.merge_read.proofs.RunLemmas.{IsRun}
use Rattle.merge_read.specs.Lists.{joined}
use Rattle.merge_read.specs.Merged.{row_of}
use Rattle.merge_read.specs.Rests.{unread_in}
use Rattle.merge_read.proofs.runs.merge_same.Given as goal

abbrev pub invariant-loop-head : goal.invariant-loop-head
invariant-loop-head g l = record {
  shape : l.stream.shape ≡ l.shape;
  begun : l.stream.begun ≡ true;
  run : IsRun l.shape (key_of l.shape (row_of l.initial.cells)) (row_of l.cells) l.stream.rests (fold_of l.shape (row_of l.initial.cells ∷ joined l.initial.stream.rests));
  counted : l.steps + unread_in l.stream ≡ l.initial.steps + unread_in l.initial.stream;
}

abbrev pub decreases-loop-head : goal.decreases-loop-head
decreases-loop-head g l = length (joined l.stream.rests)
