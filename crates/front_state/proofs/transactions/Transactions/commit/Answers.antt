use Rattle.std.proofs.Common.{◌≡◌, ◌∙◌, ap, rules}
use Rattle.txn_core.specs.Book as books
use Rattle.txn_core.specs.Book.{BookView}
use Rattle.front_state.specs.Parts.{transactions_seen}
use Rattle.front_state.proofs.Changes.{committed_seen}
use Rattle.front_state.proofs.transactions.Transactions.commit.Goals as goal

pub returns-clause-ok : goal.returns-clause-ok
returns-clause-ok c =
    let e : c.commit.new.self ≡ books.committed c.args.id c.args.at c.self.inside.book = search rules in
    rw (← c.self.view_is) (ap (λ (b : BookView). transactions_seen b c.self.inside.range) e ∙ committed_seen c.args.id c.args.at c.self.inside.book c.self.inside.range)
