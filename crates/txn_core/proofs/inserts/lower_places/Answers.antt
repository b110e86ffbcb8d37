use Rattle.std.proofs.Common.{◌≤◌, length, nat_lt, rules}
use Rattle.std.proofs.lemmas.List.Sorted.{IsPartitionPoint-from_clause}
use Rattle.txn_core.specs.declared.waiter.Waiter.{Waiter}
use Rattle.txn_core.proofs.Parted.{lower_front, others_back, parted_by}
use Rattle.txn_core.proofs.inserts.lower_places.Goals as goal

pub returns-clause-lower : goal.returns-clause-lower
returns-clause-lower c =
    let facts = c.partition_point.ensures in
    let within : c.partition_point.result ≤ length c.args.queue.now.items = search rules in
    let parted = IsPartitionPoint-from_clause (λ (w : Waiter). nat_lt w.place c.args.place) c.args.queue.now.items c.partition_point.result facts.partitioned (parted_by (λ (w : Waiter). w.place) c.args.place c.args.queue.now.items c.requires) (λ a r f called. search rules) in
    lower_front (λ (w : Waiter). nat_lt w.place c.args.place) c.args.queue.now.items c.partition_point.result within parted

pub returns-clause-others : goal.returns-clause-others
returns-clause-others c =
    let facts = c.partition_point.ensures in
    let within : c.partition_point.result ≤ length c.args.queue.now.items = search rules in
    let parted = IsPartitionPoint-from_clause (λ (w : Waiter). nat_lt w.place c.args.place) c.args.queue.now.items c.partition_point.result facts.partitioned (parted_by (λ (w : Waiter). w.place) c.args.place c.args.queue.now.items c.requires) (λ a r f called. search rules) in
    others_back (λ (w : Waiter). nat_lt w.place c.args.place) c.args.queue.now.items c.partition_point.result within parted
