use Rattle.std.proofs.Common.{refl}
use Rattle.dl_values.specs.Read.{signed_number, strip_back, strip_front}
use Rattle.fold_laws.specs.Fold.{folded}
use Rattle.select_defs.specs.Eval.{Eval}
use Rattle.select_defs.specs.Groups.{group_row, plain_row}
use Rattle.select_defs.proofs.examples.literals_are_read_by_their_column.Goals as goal

pub returns-clause-text : goal.returns-clause-text
unfolding Eval folded group_row plain_row strip_front strip_back signed_number
returns-clause-text c = (_, refl, refl)

pub returns-clause-number : goal.returns-clause-number
unfolding Eval folded group_row plain_row strip_front strip_back signed_number
returns-clause-number c = (_, refl, refl)
