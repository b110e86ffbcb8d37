use Rattle.std.proofs.Common.{◌≡◌, ◌∙◌, ap}
use Rattle.std.proofs.lemmas.Result.{on_ok_weaker}
use Rattle.labels.specs.declared.txn_state.TxnState.TheVariants as state
use Rattle.txn_core.specs.Book.{BookView}
use Rattle.front_state.specs.Parts.{transactions_seen}
use Rattle.front_state.proofs.Changes.{ended_seen}
use Rattle.front_state.proofs.transactions.Transactions.abort.Goals as goal

pub returns-clause-ok : goal.returns-clause-ok
returns-clause-ok c = rw (← c.self.view_is) (on_ok_weaker c.abort.result (λ e. ap (λ (b : BookView). transactions_seen b c.self.inside.range) e ∙ ended_seen c.args.id state.Aborted c.args.at c.self.inside.book c.self.inside.range) c.abort.ensures.ok)
