use Rattle.std.proofs.Common.{◌<◌, length, rules}
use Rattle.labels.specs.declared.txn_state.TxnState.TheVariants as state
use Rattle.txn_core.specs.Book.{is_stale, swept_as}
use Rattle.txn_core.proofs.Mapped.{sweep_keeps}
use Rattle.txn_core.proofs.Relabelled.{bound_at, step_on, swept_label, swept_same}
use Rattle.txn_core.proofs.expiry.abort_stale.Goals as goal

pub abort_if_stale-requires : goal.abort_if_stale-requires
abort_if_stale-requires c = rw c.loop-info.invariant.labels (bound_at c.loop-info.info-items c.loop-info.info-index c.info-item.result (search rules))

pub loop-info-preserved : goal.loop-info-preserved
loop-info-preserved c =
    let within : c.loop-info.info-index < length c.args.kept.now.items = search rules in
    let within_now : c.loop-info.info-index < length c.loop-info.info-items = search rules in
    step_on (swept_as c.args.at) (is_stale c.args.at) (λ k. state.Aborted) c.args.kept.now.items c.loop-info.info-items c.loop-info.info-index c.info-item.result c.abort_if_stale.new.info c.loop-info.labels c.abort_if_stale.new.labels
    (sweep_keeps c.args.at).id (swept_label c.args.at) (swept_same c.args.at) c.loop-info.invariant within within_now c.info-item.is c.abort_if_stale.ensures.is c.abort_if_stale.ensures.labels
