use Rattle.front_state.proofs.Views.{self_waits}
use Rattle.front_state.proofs.transactions.Transactions.due.Goals as goal

pub returns-clause-waits : goal.returns-clause-waits
returns-clause-waits c = rw (← c.self.view_is) (self_waits c.self.inside.book.kept c.due.result c.vouch.ensures.ascends c.due.ensures.kept)
