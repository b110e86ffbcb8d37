use Rattle.std.proofs.Common.{true, false}
use Rattle.load_server.specs.Ends.{ended}
use Rattle.load_server.proofs.ending.publish_committed.Goals as goal

pub returns : goal.returns
returns g c = λ seen own s. c.publish-outcome.ensures (ended true true c.args.txn) (ended true false c.args.txn) _ c.committed.ensures seen own s
