use Rattle.std.proofs.Common.{arith}
use Rattle.schema_models.proofs.FoldLemmas.{all_keys_done}
use Rattle.schema_models.proofs.folds.fold.Goals as goal

pub returns : goal.returns
returns c = all_keys_done c.args.shape.now c.args.rows.now c.loop-key.out c.deref-key-items.result.now c.loop-key.key-index (omega arith) c.loop-key.invariant
