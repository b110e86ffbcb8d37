-- The first columns are copied.
use Rattle.std.proofs.Common.{◌≡◌, take}
use Rattle.schema_models.proofs.column_def.copy_columns.Given as goal

abbrev pub invariant-loop-column : goal.invariant-loop-column
invariant-loop-column l = l.all.items ≡ take l.column-index l.columns
