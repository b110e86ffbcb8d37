use Rattle.std.proofs.Common.{◌≡◌, ◌∙◌, ap, map, not, rules, sym}
use Rattle.std.proofs.lemmas.Fn.{filter_same}
use Rattle.std.specs.Prelude.{filter}
use Rattle.txn_core.specs.declared.info.TxnInfo.{TxnInfo}
use Rattle.txn_core.specs.Book.{is_old}
use Rattle.txn_core.specs.Queue.{binding}
use Rattle.txn_core.proofs.expiry.forget_old.Goals as goal

pub returns-clause-is : goal.returns-clause-is
returns-clause-is c = filter_same _ (λ (k : TxnInfo). not (is_old c.args.at k)) _ (λ x b f k. search rules) _ _ c.retain.ensures.filtered

pub returns-clause-labels : goal.returns-clause-labels
returns-clause-labels c =
    let left = filter_same _ (λ (k : TxnInfo). not (is_old c.args.at k)) _ (λ x b f k. search rules) _ _ c.retain.ensures.filtered in
    let e : c.clean_old.new.labels ≡ map binding (filter (λ (k : TxnInfo). not (is_old c.args.at k)) c.args.kept.now.items) = search rules in
    e ∙ ap (map binding) (sym left)
