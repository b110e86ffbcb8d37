use Rattle.std.proofs.Common.{◌≡◌, ◌∙◌, Some, ap, rules}
use Rattle.std.specs.Option.{option_map}
use Rattle.txn_core.specs.Book as books
use Rattle.txn_core.specs.Book.{BookView, place_for, txns_in}
use Rattle.front_defs.specs.Transactions.{txn_at}
use Rattle.front_state.specs.Parts.{transactions_seen}
use Rattle.front_state.proofs.Changes.{placed_is, taken_seen}
use Rattle.front_state.proofs.transactions.Transactions.submit.Goals as goal

pub returns-clause-placed : goal.returns-clause-placed
returns-clause-placed c =
    let e : Some c.in-Ok.place ≡ option_map (λ t. place_for t.two_phase c.self.inside.book.places) (txn_at c.args.id (txns_in c.self.inside.book)) = search rules in
    rw (← c.self.view_is) (c.placed.ensures ∙ placed_is (txn_at c.args.id (txns_in c.self.inside.book)) c.in-Ok.place (txns_in c.self.inside.book) c.self.inside.book.places c.waiting-ahead.result e c.waiting-ahead.ensures)

pub returns-clause-ok : goal.returns-clause-ok
returns-clause-ok c =
    let e : c.submit.new.self ≡ books.submitted c.args.id c.in-Ok.place c.args.held c.args.at c.self.inside.book = search rules in
    rw (← c.self.view_is, c.placed.ensures) (ap (λ (b : BookView). transactions_seen b c.self.inside.range) e ∙ taken_seen c.args.id c.in-Ok.place c.waiting-ahead.result c.args.held c.args.at c.self.inside.book c.self.inside.range)
