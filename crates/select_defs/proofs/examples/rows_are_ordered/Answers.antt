use Rattle.std.proofs.Common.{refl}
use Rattle.fold_laws.specs.Fold.{folded}
use Rattle.select_defs.specs.Eval.{Eval}
use Rattle.select_defs.specs.Groups.{group_row, plain_row}
use Rattle.select_defs.proofs.examples.rows_are_ordered.Goals as goal

pub returns-clause-descending : goal.returns-clause-descending
unfolding Eval folded group_row plain_row
returns-clause-descending c = (_, refl, refl)

pub returns-clause-positions : goal.returns-clause-positions
unfolding Eval folded group_row plain_row
returns-clause-positions c = (_, refl, refl)

pub returns-clause-whole : goal.returns-clause-whole
unfolding Eval folded group_row plain_row
returns-clause-whole c = (_, refl, refl)

pub returns-clause-none : goal.returns-clause-none
unfolding Eval folded group_row plain_row
returns-clause-none c = (_, refl, refl)

pub returns-clause-star : goal.returns-clause-star
unfolding Eval folded group_row plain_row
returns-clause-star c = (_, refl, refl)
