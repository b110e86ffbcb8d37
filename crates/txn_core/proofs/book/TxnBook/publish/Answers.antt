use Rattle.std.proofs.Common.{◌≡◌, ◌∙◌, ◌∷◌, [], ap, map, refl, rules, sym}
use Rattle.label_book.specs.Labels.{finished}
use Rattle.labels.specs.declared.txn_state.TxnState.TheVariants as state
use Rattle.txn_core.proofs.Labels.{slot_bound}
use Rattle.txn_core.proofs.Due.{due_number, none_due, published_is}
use Rattle.txn_core.proofs.book.TxnBook.publish.Goals as goal

pub finish-requires : goal.finish-requires
finish-requires c =
    let e : c.self.inside.queue.items ≡ c.in-Some.waiter ∷ c.pop_front.new.self.items = search rules in
    let h = rw e at c.self.invariant.queued in
    rw c.self.invariant.labels (slot_bound c.in-Some.waiter.txn c.in-Some.waiter.place c.self.inside.kept.items h.filled.0)

pub invariant_of-self-in-Some : goal.invariant_of-self-in-Some
invariant_of-self-in-Some c =
    let e : c.self.inside.queue.items ≡ c.in-Some.waiter ∷ c.pop_front.new.self.items = search rules in
    let h = rw e at c.self.invariant.queued in
    record {
      ascends = c.end.ensures.ascends;
      below = c.end.ensures.below _ c.self.invariant.below;
      labels = c.finish.ensures ∙ ap (map (finished c.in-Some.waiter.txn state.Visible)) c.self.invariant.labels ∙ sym c.end.ensures.labels;
      queued = c.end.ensures.first c.in-Some.waiter _ _ refl refl h;
      room = rw (c.end.ensures.length, c.pop_front.ensures.capacity) c.self.invariant.room;
    }

pub returns-in-None-clause-none : goal.returns-in-None-clause-none
returns-in-None-clause-none c =
    let e : c.self.inside.queue.items ≡ [] = search rules in
    rw (← c.self.view_is) (sym (none_due c.self.inside.kept.items c.self.inside.places (rw e at c.self.invariant.queued)))

pub returns-in-Some-clause-number : goal.returns-in-Some-clause-number
returns-in-Some-clause-number c =
    let e : c.self.inside.queue.items ≡ c.in-Some.waiter ∷ c.pop_front.new.self.items = search rules in
    rw (← c.self.view_is) (due_number c.self.inside.kept.items c.in-Some.waiter c.pop_front.new.self.items c.self.inside.places c.self.invariant.ascends (rw e at c.self.invariant.queued))

pub returns-in-Some-clause-ok : goal.returns-in-Some-clause-ok
returns-in-Some-clause-ok c =
    let e : c.self.inside.queue.items ≡ c.in-Some.waiter ∷ c.pop_front.new.self.items = search rules in
    let p = published_is c.args.at c.self.inside.kept.items c.in-Some.waiter c.pop_front.new.self.items c.self.inside.places (record { kept = c.self.inside.kept.items; next = c.self.inside.next; places = c.self.inside.places }) refl c.self.invariant.ascends (rw e at c.self.invariant.queued) in
    rw (← c.self.view_is, p) (search rules)
