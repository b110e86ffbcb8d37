use Rattle.std.proofs.Common.{refl}
use Rattle.fold_laws.specs.Fold.{folded}
use Rattle.select_defs.specs.Eval.{Eval}
use Rattle.select_defs.specs.Groups.{group_row, plain_row}
use Rattle.select_defs.proofs.examples.folds_serve_some_queries.Goals as goal

pub returns-clause-sums : goal.returns-clause-sums
unfolding Eval folded group_row plain_row
returns-clause-sums c = (refl, (_, refl, refl), (_, refl, refl))

pub returns-clause-keys : goal.returns-clause-keys
unfolding Eval folded group_row plain_row
returns-clause-keys c = (refl, (_, refl, refl), (_, refl, refl))

pub returns-clause-counts : goal.returns-clause-counts
unfolding Eval folded group_row plain_row
returns-clause-counts c = (refl, (_, refl, refl), (_, refl, refl))

pub returns-clause-extremes : goal.returns-clause-extremes
unfolding Eval folded group_row plain_row
returns-clause-extremes c = (refl, (_, refl, refl), (_, refl, refl))

pub returns-clause-tests : goal.returns-clause-tests
unfolding Eval folded group_row plain_row
returns-clause-tests c = (refl, (_, refl, refl), (_, refl, refl))

pub returns-clause-plain : goal.returns-clause-plain
unfolding Eval folded group_row plain_row
returns-clause-plain c = (refl, (_, refl, refl), (_, refl, refl))
