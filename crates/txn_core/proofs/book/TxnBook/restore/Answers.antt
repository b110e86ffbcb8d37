use Rattle.std.proofs.Common.{◌≡◌, ◌≤◌, ◌+◌, ◌∙◌, List, ap, length, map, refl, rules}
use Rattle.std.specs.VecDeque.{deque_capacity}
use Rattle.label_book.specs.declared.binding.Binding.{Binding}
use Rattle.label_book.specs.Labels.{bound, finished, put_binding}
use Rattle.txn_core.specs.Book.{put_info}
use Rattle.txn_core.specs.Queue.{put_slot, slot}
use Rattle.txn_core.proofs.Restored.{indexed_restored, labels_restored, none_bound, none_has, not_kept}
use Rattle.txn_core.proofs.book.TxnBook.restore.Goals as goal

pub bind-requires : goal.bind-requires
bind-requires c =
    let fresh = rw (← c.self.view_is) at c.requires.fresh in
    rw c.self.invariant.labels (none_bound c.args.told.id c.self.inside.kept.items (none_has c.args.told.id c.self.inside.kept.items (not_kept c.args.told.id c.self.inside.kept.items fresh)))

pub put_by_number-requires-clause-fresh : goal.put_by_number-requires-clause-fresh
put_by_number-requires-clause-fresh c =
    let fresh = rw (← c.self.view_is) at c.requires.fresh in
    rw c.reserve.ensures.items (not_kept c.args.told.id c.self.inside.kept.items fresh)

pub invariant_of-self-2 : goal.invariant_of-self-2
invariant_of-self-2 c =
    let ks = c.self.inside.kept.items in
    let fresh = none_has c.args.told.id ks (not_kept c.args.told.id ks (rw (← c.self.view_is) at c.requires.fresh)) in
    let k : c.put_by_number.new.kept.items ≡ put_info c.args.told ks = search rules in
    let q : c.put_waiter.new.queue.items ≡ put_slot (slot c.args.told) c.args.told.id c.self.inside.queue.items = search rules in
    let l : c.finish.new.self ≡ map (finished c.args.told.id c.args.told.state) (put_binding (bound c.args.told.db c.args.told.label c.args.told.id) c.self.inside.labels) = search rules in
    let more : length ks + 1 ≤ deque_capacity c.put_waiter.new.queue = search rules in
    let below = rw (← c.self.view_is) at c.requires.below in
    let place = rw (← c.self.view_is) at c.requires.place in
    let labels = l ∙ ap (λ (bs : List Binding). map (finished c.args.told.id c.args.told.state) (put_binding (bound c.args.told.db c.args.told.label c.args.told.id) bs)) c.self.invariant.labels ∙ labels_restored c.args.told ks in
    rw (k, q) (indexed_restored c.args.told ks c.self.inside.labels c.finish.new.self c.self.inside.queue.items _ _ c.self.inside.next (record { kept = ks; next = c.self.inside.next; places = c.self.inside.places }) refl place fresh below labels more c.self.invariant)
