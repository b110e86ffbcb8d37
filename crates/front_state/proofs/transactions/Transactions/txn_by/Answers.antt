use Rattle.front_state.proofs.Views.{self_seen}
use Rattle.front_state.proofs.transactions.Transactions.txn_by.Goals as goal

pub returns-in-Label-clause-number : goal.returns-in-Label-clause-number
returns-in-Label-clause-number c = rw (← c.self.view_is) (self_seen c.self.inside.book.kept c.find.result c.find.ensures.kept)
