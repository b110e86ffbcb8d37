use Rattle.std.proofs.Common.{◌≤◌, length, nat_lt, rules}
use Rattle.std.proofs.lemmas.List.Sorted.{IsPartitionPoint-from_clause}
use Rattle.txn_core.specs.declared.info.TxnInfo.{TxnInfo}
use Rattle.txn_core.proofs.Parted.{lower_front, others_back, parted_by}
use Rattle.txn_core.proofs.inserts.lower_numbers.Goals as goal

pub returns-clause-lower : goal.returns-clause-lower
returns-clause-lower c =
    let facts = c.partition_point.ensures in
    let within : c.partition_point.result ≤ length c.args.kept.now = search rules in
    let parted = IsPartitionPoint-from_clause (λ (k : TxnInfo). nat_lt k.id c.args.id) c.args.kept.now c.partition_point.result facts.partitioned (parted_by (λ (k : TxnInfo). k.id) c.args.id c.args.kept.now c.requires) (λ a r f called. search rules) in
    lower_front (λ (k : TxnInfo). nat_lt k.id c.args.id) c.args.kept.now c.partition_point.result within parted

pub returns-clause-others : goal.returns-clause-others
returns-clause-others c =
    let facts = c.partition_point.ensures in
    let within : c.partition_point.result ≤ length c.args.kept.now = search rules in
    let parted = IsPartitionPoint-from_clause (λ (k : TxnInfo). nat_lt k.id c.args.id) c.args.kept.now c.partition_point.result facts.partitioned (parted_by (λ (k : TxnInfo). k.id) c.args.id c.args.kept.now c.requires) (λ a r f called. search rules) in
    others_back (λ (k : TxnInfo). nat_lt k.id c.args.id) c.args.kept.now c.partition_point.result within parted
