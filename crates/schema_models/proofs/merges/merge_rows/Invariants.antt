use Rattle.std.proofs.Common.{◌≡◌, ◌++◌, drop}
use Rattle.schema_models.specs.Folds.{merged_row}
use Rattle.schema_models.proofs.merges.merge_rows.Given as goal

abbrev pub invariant-loop-i : goal.invariant-loop-i
invariant-loop-i l = l.row ++ merged_row (drop l.i l.columns) (drop l.i l.old) (drop l.i l.new) ≡ merged_row l.columns l.old l.new
