use Rattle.txn_core.proofs.Unbegun.{indexed_front}
use Rattle.txn_core.proofs.book.TxnBook.unbegin.Goals as goal

pub invariant_of-self-in-Some : goal.invariant_of-self-in-Some
invariant_of-self-in-Some c =
    let begins = rw (← c.self.view_is) at c.requires in
    indexed_front (record { kept = c.self.inside.kept.items; next = c.self.inside.next; places = c.self.inside.places }) c.pop.new.self.items c.in-Some.last c.self.inside.labels c.clean.new.self c.self.inside.queue.items _ c.in-Some.ensures.items begins c.clean.ensures c.self.invariant
