use Rattle.std.proofs.Common.{refl}
use Rattle.fold_laws.specs.Fold.{folded}
use Rattle.select_defs.specs.Eval.{Eval}
use Rattle.select_defs.specs.Groups.{group_row, plain_row}
use Rattle.select_defs.proofs.examples.an_empty_table_is_queried.Goals as goal

pub returns-clause-one : goal.returns-clause-one
unfolding Eval folded group_row plain_row
returns-clause-one c = (_, refl, refl)

pub returns-clause-grouped : goal.returns-clause-grouped
unfolding Eval folded group_row plain_row
returns-clause-grouped c = (_, refl, refl)

pub returns-clause-plain : goal.returns-clause-plain
unfolding Eval folded group_row plain_row
returns-clause-plain c = (_, refl, refl)
