use Rattle.front_state.proofs.Changes.{publishes}
use Rattle.front_state.proofs.transactions.Transactions.publish.Goals as goal

pub returns : goal.returns
returns c = rw (← c.self.view_is) (publishes c.publish-ended.result c.args.at c.self.inside.book c.publish-ended.new.self c.self.inside.range c.publish-ended.ensures.ok c.publish-ended.ensures.none c.publish-ended.ensures.err)
