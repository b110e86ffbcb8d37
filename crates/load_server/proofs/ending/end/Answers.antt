use Rattle.std.proofs.Common.{ap, Bool}
use Rattle.load_server.specs.Scripts.{ending}
use Rattle.load_server.proofs.Going.{answered_as}
use Rattle.load_server.proofs.ending.end.Goals as goal

pub returns-then-commit : goal.returns-then-commit
returns-then-commit g c = λ seen own s. answered_as _ seen own _ _ _ (ap (λ (b : Bool). ending c.args.db c.args.txn b c.args.at) c.if-commit.true) (c.commit_load.ensures seen own s)

pub returns-else-commit : goal.returns-else-commit
returns-else-commit g c = λ seen own s. answered_as _ seen own _ _ _ (ap (λ (b : Bool). ending c.args.db c.args.txn b c.args.at) c.if-commit.false) (c.abort_load.ensures seen own s)
