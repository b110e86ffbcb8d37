use Rattle.std.proofs.Common.{◌≡◌, drop}
use Rattle.schema_models.specs.RowRules.{fits_columns}
use Rattle.schema_models.proofs.row_test.is_of_shape.Given as goal

abbrev pub invariant-loop-i : goal.invariant-loop-i
invariant-loop-i l = fits_columns (drop l.i l.columns) (drop l.i l.row) ≡ fits_columns l.columns l.row
