use Rattle.std.proofs.Common.{arith}
use Rattle.schema_models.proofs.CellTypeLemmas.{text_fits, text_is_none}
use Rattle.schema_models.proofs.cell_types.is_text.Goals as goal

pub returns-in-Ok : goal.returns-in-Ok
returns-in-Ok c = text_fits c.args.limit c.args.bytes.now (omega arith) c.in-Ok.ensures.cases.1

pub returns-in-Err : goal.returns-in-Err
returns-in-Err c = text_is_none c.args.limit c.args.bytes.now (omega arith) c.in-Err.ensures.cases.0
