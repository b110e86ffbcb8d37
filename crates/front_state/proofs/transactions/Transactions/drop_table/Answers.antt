use Rattle.std.proofs.Common.{◌≡◌, ◌∙◌, ap}
use Rattle.txn_core.specs.Book.{BookView}
use Rattle.front_state.specs.Parts.{transactions_seen}
use Rattle.front_state.proofs.Changes.{without_seen}
use Rattle.front_state.proofs.transactions.Transactions.drop_table.Goals as goal

pub returns : goal.returns
returns c = rw (← c.self.view_is) (ap (λ (b : BookView). transactions_seen b c.self.inside.range) c.drop_table.ensures ∙ without_seen c.args.table c.args.at c.self.inside.book c.self.inside.range)
