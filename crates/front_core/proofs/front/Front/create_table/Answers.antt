use Rattle.front_core.proofs.Texts.{refused_no_fault, refused_not_well}
use Rattle.front_core.proofs.front.Front.create_table.Goals as goal

pub returns-in-Err-clause-well : goal.returns-in-Err-clause-well
returns-in-Err-clause-well c = λ w. absurd (refused_not_well c.args.table c.args.def c.in-Err.refusal c.in-Err.ensures.err w)

pub returns-in-Err-clause-works : goal.returns-in-Err-clause-works
returns-in-Err-clause-works c = λ w. refused_no_fault c.args.table c.args.def c.in-Err.refusal c.in-Err.ensures.err w
