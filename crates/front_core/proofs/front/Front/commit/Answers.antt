use Rattle.std.proofs.Common.{◌≡◌, Some, None, ap, refl, rules, subst, true, sym}
use Rattle.front_defs.specs.Catalogue.{has_db}
use Rattle.front_defs.specs.Transactions.{txn_at, txn_by}
use Rattle.front_defs.specs.declared.txn.Txn.{Txn}
use Rattle.txn_core.specs.Refusals.{commit_fault}
use Rattle.txn_core.specs.Seen.{seen}
use Rattle.front_core.proofs.Answered.{commits_at}
use Rattle.front_core.proofs.front.Front.commit.Goals as goal

pub returns-in-Ok-clause-answer : goal.returns-in-Ok-clause-answer
returns-in-Ok-clause-answer c =
    let k = c.in-Some.load.now in
    let old = c.args.self.now in
    let known : has_db c.args.db old.databases ≡ true = search rules in
    let found : txn_by c.args.db c.args.key old.txns ≡ Some (seen k) = search rules in
    let numbered : txn_at k.id old.txns ≡ Some (seen k) = search rules in
    let free : commit_fault c.args.at (txn_at k.id old.txns) ≡ None = search rules in
    commits_at c.args.db c.args.key c.args.at old.databases old.txns old.places (seen k) _ known found (rw numbered at free) (search rules)
