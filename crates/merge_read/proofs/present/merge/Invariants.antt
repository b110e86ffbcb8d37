-- The first cells are merged.
use Rattle.std.proofs.Common.{◌≡◌}
use Rattle.schema_models.specs.Folds.{merged_row}
use Rattle.merge_read.proofs.Merging.{half}
use Rattle.merge_read.specs.Merged.{row_of}
use Rattle.merge_read.proofs.present.merge.Given as goal

abbrev pub invariant-loop-column : goal.invariant-loop-column
invariant-loop-column l = half l.column l.columns l.cells l.row ≡ merged_row l.columns (row_of l.initial.cells) l.row
