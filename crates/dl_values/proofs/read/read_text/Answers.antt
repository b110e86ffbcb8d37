use Rattle.std.proofs.Common.{arith}
use Rattle.dl_values.proofs.TextLemmas.{text_found, text_refused}
use Rattle.dl_values.proofs.read.read_text.Goals as goal

pub returns-in_ok-new-in-Ok-clause-found : goal.returns-in_ok-new-in-Ok-clause-found
returns-in_ok-new-in-Ok-clause-found c = rw c.in_ok-new-in-Ok.ensures (text_found c.args.most c.args.text.now c.in-Ok.ensures.cases.1 (omega arith))

pub returns-in-Err-clause-unreadable : goal.returns-in-Err-clause-unreadable
returns-in-Err-clause-unreadable c = λ e. text_refused c.args.most c.args.text.now c.in-Err.ensures.cases.0
