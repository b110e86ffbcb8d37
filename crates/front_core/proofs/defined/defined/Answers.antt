use Rattle.front_core.proofs.Laid.{laid_by}
use Rattle.front_core.proofs.defined.defined.Goals as goal

pub returns-in-Ok-clause-laid : goal.returns-in-Ok-clause-laid
returns-in-Ok-clause-laid c = laid_by c.args.table.now c.args.def.now c.in-Ok.made.0 c.in-Ok.made.1 c.in-Ok.ensures.shape c.in-Ok.ensures.layout c.in-Ok.ensures.right
