use Rattle.std.proofs.Common.{refl}
use Rattle.fold_laws.specs.Fold.{folded}
use Rattle.select_defs.specs.Eval.{Eval}
use Rattle.select_defs.specs.Groups.{group_row, plain_row}
use Rattle.select_defs.proofs.examples.groups_are_aggregated.Goals as goal

pub returns-clause-sums : goal.returns-clause-sums
unfolding Eval folded group_row plain_row
returns-clause-sums c = refl

pub returns-clause-counts : goal.returns-clause-counts
unfolding Eval folded group_row plain_row
returns-clause-counts c = refl

pub returns-clause-extremes : goal.returns-clause-extremes
unfolding Eval folded group_row plain_row
returns-clause-extremes c = refl
