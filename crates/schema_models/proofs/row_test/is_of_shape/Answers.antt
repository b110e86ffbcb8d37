use Rattle.std.proofs.Common.{ap, ◌∙◌, length}
use Rattle.schema_models.proofs.RowLengths.{other_length}
use Rattle.schema_models.proofs.row_test.is_of_shape.Goals as goal

pub returns-then-columns-row : goal.returns-then-columns-row
returns-then-columns-row c = other_length c.args.shape.now.columns c.args.row.now (λ e. c.if-columns-row.true (ap length c.columns-columns.ensures ∙ e))
