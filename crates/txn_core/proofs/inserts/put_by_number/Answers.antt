use Rattle.std.proofs.Common.{◌∙◌, ◌++◌, ◌∷◌, List, ap, drop}
use Rattle.txn_core.specs.declared.info.TxnInfo.{TxnInfo}
use Rattle.txn_core.proofs.Inserted.{was_inserted}
use Rattle.txn_core.proofs.Restored.{lower, none_has, others_higher}
use Rattle.txn_core.proofs.inserts.put_by_number.Goals as goal

pub returns : goal.returns
returns c =
    let lo = rw c.deref.ensures.value at c.lower_numbers-at.ensures.lower in
    let hi = rw c.deref.ensures.value at c.lower_numbers-at.ensures.others in
    let above = others_higher c.args.told.id c.args.kept.now.items (none_has c.args.told.id c.args.kept.now.items c.requires.fresh) in
    was_inserted c.insert-put.result _ _ _ (c.insert-put.ensures.succeeds c.requires.room) c.insert-put.ensures.items
    ∙ ap (λ (ks : List TxnInfo). ks ++ c.args.told ∷ drop c.lower_numbers-at.result c.args.kept.now.items) lo
    ∙ ap (λ (ks : List TxnInfo). lower c.args.told.id c.args.kept.now.items ++ c.args.told ∷ ks) (hi ∙ above)
