use Rattle.std.proofs.Common.{◌≡◌, ◌++◌, ◌≤◌, take, drop, length}
use Rattle.schema_models.specs.Folds.{merged_row}
use Rattle.row_fold.proofs.runs.merge_into.Given as goal

abbrev pub invariant-loop-i : goal.invariant-loop-i
invariant-loop-i l = record {
  same_length : length l.made.items ≡ l.i-end;
  within_columns : length l.made.items ≤ length l.columns;
  within_new : length l.made.items ≤ length l.new;
  so_far : take l.i l.made.items ++ merged_row (drop l.i l.columns) (drop l.i l.made.items) (drop l.i l.new) ≡ merged_row l.columns l.fn.made.items l.new;
}
