use Rattle.tablets.specs.Shadows.{unmarked}
use Rattle.tablets.proofs.Loops.{mapped_more}
use Rattle.tablets.proofs.switching.unmark_all.Goals as goal

pub loop-index-preserved : goal.loop-index-preserved
loop-index-preserved c = mapped_more (unmarked c.args.job) c.args.indexes.now c.loop-index.indexes c.loop-index.index-index c.index-item.result c.unmark.new.self c.loop-index.invariant c.loop-index-test.true c.index-item.is c.unmark.ensures
