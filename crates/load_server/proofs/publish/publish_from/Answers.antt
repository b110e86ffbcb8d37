use Rattle.std.proofs.Common.{ap}
use Rattle.load_server.specs.Reports.{succeeded, delayed}
use Rattle.load_server.specs.Scripts.{publishing_from}
use Rattle.load_server.proofs.Going.{answered_as}
use Rattle.load_server.proofs.publish.publish_from.Goals as goal

pub returns-in-Some : goal.returns-in-Some
returns-in-Some g c = λ seen own s.
    let good = succeeded c.args.sent.now c.args.txn c.args.counts.filtered c.args.counts.total in
    let late = delayed c.args.sent.now c.args.txn c.args.counts.filtered c.args.counts.total in
    answered_as _ seen own _ _ _ (ap (publishing_from good late c.args.at) c.in-Some.is) (c.publish-outcome.ensures good late _ c.published.ensures seen own s)
