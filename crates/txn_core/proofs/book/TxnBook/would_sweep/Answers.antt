use Rattle.std.proofs.Common.{◌≡◌, ◌∙◌, rules}
use Rattle.std.specs.List.{list_any}
use Rattle.txn_core.specs.Book.{is_told_change}
use Rattle.txn_core.proofs.Swept.{told_seen}
use Rattle.txn_core.proofs.book.TxnBook.would_sweep.Goals as goal

pub returns-clause-told : goal.returns-clause-told
returns-clause-told c =
    let e : c.tells.result ≡ list_any (is_told_change c.args.at) c.self.inside.kept.items = search rules in
    rw (← c.self.view_is) (e ∙ told_seen c.args.at c.self.inside.kept.items)
