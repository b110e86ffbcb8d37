use Rattle.std.proofs.Common.{◌≡◌, Some, None, position, nat_eq, rules}
use Rattle.txn_core.specs.declared.info.TxnInfo.{TxnInfo}
use Rattle.txn_core.proofs.Halves.{find_at, find_none}
use Rattle.txn_core.proofs.finds.kept_at.Goals as goal

pub returns-in-None : goal.returns-in-None
returns-in-None c =
    let e : None ≡ position (λ (k : TxnInfo). nat_eq k.id c.args.id) c.args.kept.now = search rules in
    find_none (λ (k : TxnInfo). nat_eq k.id c.args.id) c.args.kept.now e

pub returns-in-Some : goal.returns-in-Some
returns-in-Some c =
    let e : Some c.in-Some.i ≡ position (λ (k : TxnInfo). nat_eq k.id c.args.id) c.args.kept.now = search rules in
    find_at (λ (k : TxnInfo). nat_eq k.id c.args.id) c.args.kept.now c.in-Some.i c.index-kept-i.result e c.index-kept-i.is
