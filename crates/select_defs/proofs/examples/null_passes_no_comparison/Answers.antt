use Rattle.std.proofs.Common.{refl}
use Rattle.fold_laws.specs.Fold.{folded}
use Rattle.select_defs.specs.Eval.{Eval}
use Rattle.select_defs.specs.Groups.{group_row, plain_row}
use Rattle.select_defs.proofs.examples.null_passes_no_comparison.Goals as goal

pub returns-clause-unequal : goal.returns-clause-unequal
unfolding Eval folded group_row plain_row
returns-clause-unequal c = (_, refl, refl)

pub returns-clause-at_most : goal.returns-clause-at_most
unfolding Eval folded group_row plain_row
returns-clause-at_most c = (_, refl, refl)

pub returns-clause-null : goal.returns-clause-null
unfolding Eval folded group_row plain_row
returns-clause-null c = (_, refl, refl)
