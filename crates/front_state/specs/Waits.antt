-- What waits of a kept transaction for the base of its table.
use Rattle.std.specs.Prelude.{[], ◌∷◌}
use Rattle.front_defs.specs.Stands.{WaitingRows}
use Rattle.txn_core.specs.declared.info.TxnInfo.{TxnInfo}
use Rattle.txn_core.specs.Seen.{sets_in}

abbrev pub waits : TxnInfo → WaitingRows
waits k = record { txn = k.id; sets = sets_in k.held ∷ [] }
