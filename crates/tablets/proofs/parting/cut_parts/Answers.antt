use Rattle.tablets.specs.Parting.{cut_to}
use Rattle.tablets.proofs.Loops.{mapped_more}
use Rattle.tablets.proofs.parting.cut_parts.Goals as goal

pub loop-index-preserved : goal.loop-index-preserved
loop-index-preserved c = mapped_more (cut_to c.args.parts) c.args.indexes.now c.loop-index.indexes c.loop-index.index-index c.index-item.result c.cut.new.self c.loop-index.invariant c.loop-index-test.true c.index-item.is c.cut.ensures
