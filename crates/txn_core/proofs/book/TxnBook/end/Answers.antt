use Rattle.std.proofs.Common.{◌≡◌, ◌∙◌, Some, ap, false, map, refl, sym}
use Rattle.std.specs.Option.{option_map}
use Rattle.label_book.specs.Labels.{finished}
use Rattle.labels.specs.declared.txn_state.TxnState.TheVariants as state
use Rattle.front_defs.specs.declared.txn.Txn.{Txn}
use Rattle.front_defs.specs.Transactions.{is_committed, txn_at}
use Rattle.txn_core.specs.Seen.{seen}
use Rattle.txn_core.proofs.Labels.{open_bound, open_seen}
use Rattle.txn_core.proofs.Queued.{open_slot}
use Rattle.txn_core.proofs.book.TxnBook.end.Goals as goal

pub finish-requires : goal.finish-requires
finish-requires c =
    let r : option_map (λ (t : Txn). is_committed t.state) (txn_at c.args.id (map seen c.self.inside.kept.items)) ≡ Some false = rw (← c.self.view_is) at c.requires in
    rw c.self.invariant.labels (open_bound c.args.id c.self.inside.kept.items (open_seen c.args.id c.self.inside.kept.items r))

pub invariant_of-self : goal.invariant_of-self
invariant_of-self c =
    let r : option_map (λ (t : Txn). is_committed t.state) (txn_at c.args.id (map seen c.self.inside.kept.items)) ≡ Some false = rw (← c.self.view_is) at c.requires in
    let open_now = open_seen c.args.id c.self.inside.kept.items r in
    record {
      ascends = c.end.ensures.ascends;
      below = c.end.ensures.below _ c.self.invariant.below;
      labels = c.finish.ensures ∙ ap (map (finished c.args.id state.Aborted)) c.self.invariant.labels ∙ sym c.end.ensures.labels;
      queued = c.end.ensures.queue _ _ refl (open_slot c.args.id c.self.inside.kept.items open_now) c.self.invariant.queued;
      room = rw c.end.ensures.length c.self.invariant.room;
    }
