use Rattle.std.proofs.Common.{◌∙◌, ap, map}
use Rattle.txn_core.specs.Book.{dropped_in}
use Rattle.txn_core.specs.Queue.{binding}
use Rattle.txn_core.proofs.Mapped.{drop_keeps, indexed_map}
use Rattle.txn_core.proofs.book.TxnBook.drop_table.Goals as goal

pub invariant_of-self : goal.invariant_of-self
invariant_of-self c =
    let is = c.drop_of.ensures.is in
    rw is (indexed_map (dropped_in c.args.table c.args.at) c.self.inside.kept.items c.self.inside.labels c.drop_of.new.labels c.self.inside.queue.items _ c.self.inside.next c.self.inside.places (drop_keeps c.args.table c.args.at) (c.drop_of.ensures.labels ∙ ap (map binding) is) c.self.invariant)
