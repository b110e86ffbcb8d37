use Rattle.std.proofs.Common.{◌≡◌, ◌∙◌, ◌+◌, ◌++◌, ◌∷◌, ◌≤◌, [], length, ap, map, rules}
use Rattle.txn_core.specs.Seen.{seen}
use Rattle.txn_core.proofs.Labels.{unbound}
use Rattle.label_book.specs.Labels.{bound, state_of, IsFree, WasRefused}
use Rattle.front_defs.specs.Transactions.{label_of}
use Rattle.std.specs.VecDeque.{deque_capacity}
use Rattle.txn_core.proofs.Begins.{free_begin, refused_begin}
use Rattle.txn_core.proofs.Indexed.{begins_indexed}
use Rattle.txn_core.proofs.Labels.{bound_below, state_seen}
use Rattle.txn_core.proofs.book.TxnBook.add.Goals as goal

pub bind-requires : goal.bind-requires
bind-requires c =
    let same : c.args.info.id ≡ c.self.inside.next = search rules in
    rw (c.self.invariant.labels, same) (unbound c.self.inside.next c.self.inside.kept.items c.self.invariant.below)

pub returns-in-Err-bind-clause-refused : goal.returns-in-Err-bind-clause-refused
returns-in-Err-bind-clause-refused c =
    let w : WasRefused (state_of c.args.info.db c.args.info.label c.self.inside.labels) c.in-Err-bind.error = search rules in
    let z = ap (state_of c.args.info.db c.args.info.label) c.self.invariant.labels ∙ state_seen c.args.info.db c.args.info.label c.self.inside.kept.items in
    rw (← c.self.view_is, c.bind_refusal.ensures) (refused_begin (label_of c.args.info.db c.args.info.label (map seen c.self.inside.kept.items)) c.in-Err-bind.error (rw z at w))

pub returns-clause-free : goal.returns-clause-free
returns-clause-free c =
    let w : IsFree (state_of c.args.info.db c.args.info.label c.self.inside.labels) = search rules in
    let z = ap (state_of c.args.info.db c.args.info.label) c.self.invariant.labels ∙ state_seen c.args.info.db c.args.info.label c.self.inside.kept.items in
    rw (← c.self.view_is) (free_begin (label_of c.args.info.db c.args.info.label (map seen c.self.inside.kept.items)) (rw z at w))

pub invariant_of-self-2 : goal.invariant_of-self-2
invariant_of-self-2 c =
    let e : c.push_reserved.new.self.items ≡ c.self.inside.kept.items ++ c.args.info ∷ [] = search rules in
    let same : c.args.info.id ≡ c.self.inside.next = search rules in
    let below = rw (← same) at (bound_below c.self.inside.next c.self.inside.kept.items c.self.invariant.below) in
    let b : c.bind.new.self ≡ c.self.inside.labels ++ bound c.args.info.db c.args.info.label c.args.info.id ∷ [] = c.in-Ok-bind.ensures.last (rw c.self.invariant.labels below) in
    let next : c.args.next ≡ c.self.inside.next + 1 = search rules in
    let more : length c.self.inside.kept.items + 1 ≤ deque_capacity c.reserve-2.new.self = search rules in
    rw (e, b, next, c.reserve-2.ensures.items) (begins_indexed c.self.inside.kept.items c.args.info c.self.inside.labels c.self.inside.queue.items (deque_capacity c.reserve-2.new.self) c.self.inside.next c.self.inside.places same c.requires.begins more (record { ascends = c.self.invariant.ascends; below = c.self.invariant.below; labels = c.self.invariant.labels; queued = c.self.invariant.queued; room = search rules }))
