use Rattle.std.proofs.Common.{refl, subst}
use Rattle.httparse.specs.Grammar.{ReadsRequest}
use Rattle.http_wire.proofs.LineFacts.{no-head_of_nothing}
use Rattle.http_wire.proofs.reader.HttpReader.next_head.Goals as goal

pub returns-in-Err-clause-unread : goal.returns-in-Err-clause-unread
returns-in-Err-clause-unread g c = λ e tree rest begins. no-head_of_nothing tree rest (subst (λ l. ReadsRequest l tree rest) (c.in-Err.ensures.none refl) begins.reads)
