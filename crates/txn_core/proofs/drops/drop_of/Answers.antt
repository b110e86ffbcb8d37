use Rattle.std.proofs.Common.{◌<◌, length, nat_eq, rules}
use Rattle.front_defs.specs.Transactions.{dropped_state}
use Rattle.txn_core.specs.Book.{dropped_in}
use Rattle.txn_core.proofs.Mapped.{drop_keeps}
use Rattle.txn_core.proofs.Relabelled.{bound_at, step_on, dropped_label, dropped_same}
use Rattle.txn_core.proofs.drops.drop_of.Goals as goal

pub drop_if_of-requires : goal.drop_if_of-requires
drop_if_of-requires c = rw c.loop-info.invariant.labels (bound_at c.loop-info.info-items c.loop-info.info-index c.info-item.result (search rules))

pub loop-info-preserved : goal.loop-info-preserved
loop-info-preserved c =
    let within : c.loop-info.info-index < length c.args.kept.now.items = search rules in
    let within_now : c.loop-info.info-index < length c.loop-info.info-items = search rules in
    step_on (dropped_in c.args.table c.args.at) (λ k. nat_eq k.table c.args.table) (λ k. dropped_state k.state) c.args.kept.now.items c.loop-info.info-items c.loop-info.info-index c.info-item.result c.drop_if_of.new.info c.loop-info.labels c.drop_if_of.new.labels
    (drop_keeps c.args.table c.args.at).id (dropped_label c.args.table c.args.at) (dropped_same c.args.table c.args.at) c.loop-info.invariant within within_now c.info-item.is c.drop_if_of.ensures.is c.drop_if_of.ensures.labels
