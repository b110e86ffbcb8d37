use Rattle.std.proofs.Common.{◌≡◌, ◌∙◌, ◌+◌, IfSome, Some, ap, false, map, rules, sym}
use Rattle.std.specs.Option.{option_map}
use Rattle.label_book.specs.Labels.{finished}
use Rattle.front_defs.specs.declared.txn.Txn.{Txn}
use Rattle.front_defs.specs.Transactions.{is_committed, txn_at}
use Rattle.txn_core.specs.Book as books
use Rattle.txn_core.specs.Book.{txns_in}
use Rattle.txn_core.specs.Seen.{seen}
use Rattle.txn_core.proofs.Labels.{open_bound, open_seen}
use Rattle.txn_core.proofs.Room.{room_left}
use Rattle.txn_core.proofs.book.TxnBook.take.Goals as goal

pub put_last-requires : goal.put_last-requires
put_last-requires c =
    let r : option_map (λ (t : Txn). is_committed t.state) (txn_at c.args.id (map seen c.self.inside.kept.items)) ≡ Some false = rw (← c.self.view_is) at c.requires.open in
    room_left c.args.id _ c.self.inside.places c.self.inside.kept.items c.self.inside.queue.items (open_seen c.args.id c.self.inside.kept.items r) c.self.invariant.queued c.self.invariant.room

pub finish-requires : goal.finish-requires
finish-requires c =
    let r : option_map (λ (t : Txn). is_committed t.state) (txn_at c.args.id (map seen c.self.inside.kept.items)) ≡ Some false = rw (← c.self.view_is) at c.requires.open in
    rw c.self.invariant.labels (open_bound c.args.id c.self.inside.kept.items (open_seen c.args.id c.self.inside.kept.items r))

pub invariant_of-self : goal.invariant_of-self
invariant_of-self c =
    let r : option_map (λ (t : Txn). is_committed t.state) (txn_at c.args.id (map seen c.self.inside.kept.items)) ≡ Some false = rw (← c.self.view_is) at c.requires.open in
    let next : IfSome c.args.place (λ p. p ≡ c.self.inside.places + 1) = rw (← c.self.view_is) at c.requires.place in
    let s : c.finish.new.self ≡ map (finished c.args.id (books.state_by c.args.place)) c.self.inside.labels = search rules in
    let p : c.last_place-self-inside.result ≡ books.places_by c.args.place c.self.inside.places = search rules in
    record {
      ascends = c.submit.ensures.ascends;
      below = c.submit.ensures.below _ c.self.invariant.below;
      labels = s ∙ ap (map (finished c.args.id (books.state_by c.args.place))) c.self.invariant.labels ∙ sym c.submit.ensures.labels;
      queued = rw (c.put_last.ensures.items, p) (c.submit.ensures.queue _ _ next (open_seen c.args.id c.self.inside.kept.items r) c.self.invariant.queued);
      room = rw (c.submit.ensures.length, c.put_last.ensures.capacity) c.self.invariant.room;
    }
