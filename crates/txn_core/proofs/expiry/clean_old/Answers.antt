use Rattle.txn_core.proofs.Forgotten.{labels_on}
use Rattle.txn_core.proofs.expiry.clean_old.Goals as goal

pub loop-info-preserved : goal.loop-info-preserved
loop-info-preserved c = labels_on c.args.at c.args.kept.now c.loop-info.info-index c.info-item.result c.loop-info.labels c.clean_if_old.new.labels c.requires.ascends c.loop-info-test.true c.info-item.is c.loop-info.invariant c.clean_if_old.ensures
