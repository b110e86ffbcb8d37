use Rattle.front_state.proofs.Views.{aligned}
use Rattle.front_state.proofs.transactions.Transactions.vouch.Goals as goal

pub returns : goal.returns
returns c = rw (← c.self.view_is) (aligned c.self.inside.book.kept)
