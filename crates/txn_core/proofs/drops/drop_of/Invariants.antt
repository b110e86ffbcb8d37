-- The first have been looked at, and their labels with them.
use Rattle.txn_core.specs.Book.{dropped_in}
use Rattle.txn_core.proofs.Relabelled.{IsPartway}
use Rattle.txn_core.proofs.drops.drop_of.Given as goal

abbrev pub invariant-loop-info : goal.invariant-loop-info
invariant-loop-info l = IsPartway (dropped_in l.table l.at) l.fn.kept.items l.info-items l.labels l.info-index
