use Rattle.std.proofs.Common.{◌∙◌, ap, map}
use Rattle.txn_core.specs.Book.{swept_as}
use Rattle.txn_core.specs.Queue.{binding}
use Rattle.txn_core.proofs.Mapped.{indexed_map, sweep_keeps}
use Rattle.txn_core.proofs.book.TxnBook.expire.Goals as goal

pub invariant_of-self : goal.invariant_of-self
invariant_of-self c =
    let is = c.abort_stale.ensures.is in
    rw is (indexed_map (swept_as c.args.at) c.self.inside.kept.items c.self.inside.labels c.abort_stale.new.labels c.self.inside.queue.items _ c.self.inside.next c.self.inside.places (sweep_keeps c.args.at) (c.abort_stale.ensures.labels ∙ ap (map binding) is) c.self.invariant)
