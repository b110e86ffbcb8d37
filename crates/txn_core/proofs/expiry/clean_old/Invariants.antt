-- Of the first, those labels are left that are not to be forgotten.
use Rattle.std.proofs.Common.{◌≡◌, ◌++◌, drop, map, not, take}
use Rattle.std.specs.Prelude.{filter}
use Rattle.txn_core.specs.declared.info.TxnInfo.{TxnInfo}
use Rattle.txn_core.specs.Book.{is_old}
use Rattle.txn_core.specs.Queue.{binding}
use Rattle.txn_core.proofs.expiry.clean_old.Given as goal

abbrev pub invariant-loop-info : goal.invariant-loop-info
invariant-loop-info l = l.labels ≡ map binding (filter (λ (k : TxnInfo). not (is_old l.at k)) (take l.info-index l.kept) ++ drop l.info-index l.kept)
