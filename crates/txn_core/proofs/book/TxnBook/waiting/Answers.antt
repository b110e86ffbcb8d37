use Rattle.std.proofs.Common.{◌≡◌, length, rules}
use Rattle.txn_core.proofs.Due.{ahead_is}
use Rattle.txn_core.proofs.book.TxnBook.waiting.Goals as goal

pub returns : goal.returns
returns c =
    let a : c.len.result ≡ length c.self.inside.queue.items = search rules in
    rw (← c.self.view_is, a) (ahead_is c.self.inside.kept.items c.self.inside.queue.items c.self.inside.places c.self.invariant.queued)
