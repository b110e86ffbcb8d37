use Rattle.std.proofs.Common.{rules}
use Rattle.std.proofs.lemmas.List.Sorted.{answers_always}
use Rattle.txn_core.specs.declared.info.TxnInfo.{TxnInfo}
use Rattle.txn_core.proofs.Halves.{halved}
use Rattle.txn_core.proofs.finds.place_of.Goals as goal

pub returns-in-Ok : goal.returns-in-Ok
returns-in-Ok c =
    let facts = c.binary_search_by_key.ensures in
    let by_key = facts.position (λ (k : TxnInfo). k.id) (answers_always _ _ _ (λ f a r g called. search rules)) in
    rw c.in-Ok.is at (halved (λ (k : TxnInfo). k.id) c.args.id c.args.kept.now c.binary_search_by_key.result c.requires facts.bound by_key)

pub returns-in-Err : goal.returns-in-Err
returns-in-Err c =
    let facts = c.binary_search_by_key.ensures in
    let by_key = facts.position (λ (k : TxnInfo). k.id) (answers_always _ _ _ (λ f a r g called. search rules)) in
    rw c.in-Err.is at (halved (λ (k : TxnInfo). k.id) c.args.id c.args.kept.now c.binary_search_by_key.result c.requires facts.bound by_key)
