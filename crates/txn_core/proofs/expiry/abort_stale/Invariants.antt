-- The first have been swept, and their labels with them.
use Rattle.txn_core.specs.Book.{swept_as}
use Rattle.txn_core.proofs.Relabelled.{IsPartway}
use Rattle.txn_core.proofs.expiry.abort_stale.Given as goal

abbrev pub invariant-loop-info : goal.invariant-loop-info
invariant-loop-info l = IsPartway (swept_as l.at) l.fn.kept.items l.info-items l.labels l.info-index
