use Rattle.std.proofs.Common.{◌≡◌, ◌∙◌, [], ap, drop, find, nat_eq, rules}
use Rattle.std.specs.Option.{option_copied, option_map}
use Rattle.txn_core.specs.declared.info.TxnInfo.{TxnInfo}
use Rattle.txn_core.specs.Seen.{seen}
use Rattle.txn_core.proofs.Due.{due_is, first_is, no_first, none_due, numbered}
use Rattle.txn_core.proofs.book.TxnBook.due.Goals as goal

pub returns-in-None-clause-load : goal.returns-in-None-clause-load
returns-in-None-clause-load c =
    let e : c.self.inside.queue.items ≡ [] = no_first c.self.inside.queue.items (search rules) in
    rw (← c.self.view_is) (none_due c.self.inside.kept.items c.self.inside.places (rw e at c.self.invariant.queued))

pub returns-in-Some-clause-load : goal.returns-in-Some-clause-load
returns-in-Some-clause-load c =
    let e = first_is c.self.inside.queue.items c.in-Some.waiter.now (search rules) (search rules) in
    let f : option_copied c.kept_at.result ≡ find (λ (k : TxnInfo). nat_eq k.id c.in-Some.waiter.now.txn) c.self.inside.kept.items = search rules in
    rw (← c.self.view_is) (ap (option_map seen) f ∙ due_is c.self.inside.kept.items c.in-Some.waiter.now (drop 1 c.self.inside.queue.items) c.self.inside.places c.self.invariant.ascends (rw e at c.self.invariant.queued))

pub returns-in-Some-clause-kept : goal.returns-in-Some-clause-kept
returns-in-Some-clause-kept c =
    let f : option_copied c.kept_at.result ≡ find (λ (k : TxnInfo). nat_eq k.id c.in-Some.waiter.now.txn) c.self.inside.kept.items = search rules in
    rw (← c.self.view_is) (numbered c.self.inside.kept.items (λ (k : TxnInfo). nat_eq k.id c.in-Some.waiter.now.txn) c.kept_at.result c.self.invariant.ascends f)
