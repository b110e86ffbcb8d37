use Rattle.std.proofs.Common.{refl}
use Rattle.fold_laws.specs.Fold.{folded}
use Rattle.select_defs.specs.Eval.{Eval}
use Rattle.select_defs.specs.Groups.{group_row, plain_row}
use Rattle.select_defs.proofs.examples.a_sum_wraps.Goals as goal

pub returns : goal.returns
unfolding Eval folded group_row plain_row
returns c = (_, refl, refl)
