use Rattle.std.proofs.Common.{◌∙◌, ap, map}
use Rattle.txn_core.specs.Queue.{binding}
use Rattle.txn_core.proofs.Forgotten.{indexed_filter}
use Rattle.txn_core.proofs.book.TxnBook.forget.Goals as goal

pub invariant_of-self : goal.invariant_of-self
invariant_of-self c =
    let is = c.forget_old.ensures.is in
    rw is (indexed_filter c.args.at c.self.inside.kept.items c.self.inside.labels c.forget_old.new.labels c.self.inside.queue.items _ c.self.inside.next c.self.inside.places (c.forget_old.ensures.labels ∙ ap (map binding) is) c.self.invariant)
