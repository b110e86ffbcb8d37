use Rattle.std.proofs.Common.{◌≡◌, ◌∙◌, ◌+◌, Some, ap, false, map, sym}
use Rattle.std.specs.Option.{option_map}
use Rattle.label_book.specs.Labels.{finished}
use Rattle.labels.specs.declared.txn_state.TxnState.TheVariants as state
use Rattle.front_defs.specs.declared.txn.Txn.{Txn}
use Rattle.front_defs.specs.Transactions.{is_committed, txn_at}
use Rattle.txn_core.specs.Seen.{seen}
use Rattle.txn_core.proofs.Labels.{open_bound, open_seen}
use Rattle.txn_core.proofs.Room.{room_left}
use Rattle.txn_core.proofs.book.TxnBook.give_place.Goals as goal

pub put_last-requires : goal.put_last-requires
put_last-requires c =
    let r : option_map (λ (t : Txn). is_committed t.state) (txn_at c.args.id (map seen c.self.inside.kept.items)) ≡ Some false = rw (← c.self.view_is) at c.requires.open in
    room_left c.args.id _ c.self.inside.places c.self.inside.kept.items c.self.inside.queue.items (open_seen c.args.id c.self.inside.kept.items r) c.self.invariant.queued c.self.invariant.room

pub finish-requires : goal.finish-requires
finish-requires c =
    let r : option_map (λ (t : Txn). is_committed t.state) (txn_at c.args.id (map seen c.self.inside.kept.items)) ≡ Some false = rw (← c.self.view_is) at c.requires.open in
    rw c.self.invariant.labels (open_bound c.args.id c.self.inside.kept.items (open_seen c.args.id c.self.inside.kept.items r))

pub invariant_of-self : goal.invariant_of-self
invariant_of-self c =
    let r : option_map (λ (t : Txn). is_committed t.state) (txn_at c.args.id (map seen c.self.inside.kept.items)) ≡ Some false = rw (← c.self.view_is) at c.requires.open in
    let next : c.args.place ≡ c.self.inside.places + 1 = rw (← c.self.view_is) at c.requires.place in
    record {
      ascends = c.commit.ensures.ascends;
      below = c.commit.ensures.below _ c.self.invariant.below;
      labels = c.finish.ensures ∙ ap (map (finished c.args.id state.Committed)) c.self.invariant.labels ∙ sym c.commit.ensures.labels;
      queued = rw c.put_last.ensures.items (c.commit.ensures.queue _ _ next (open_seen c.args.id c.self.inside.kept.items r) c.self.invariant.queued);
      room = rw (c.commit.ensures.length, c.put_last.ensures.capacity) c.self.invariant.room;
    }
