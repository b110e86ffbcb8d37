use Rattle.service.specs.declared.exit.Exit.TheVariants as exit
use Rattle.service.proofs.Dryruns.{all_cut, records_end, records_judge}
use Rattle.service.proofs.dryrun.read_rows.Goals as goal

pub returns-in-Ok-rows_of-clause-good : goal.returns-in-Ok-rows_of-clause-good
returns-in-Ok-rows_of-clause-good g c = records_end c.args.shape.now (g.S.Source.left c.args.source.now) c.in-Ok.body.items exit.Ok c.in-Ok.ensures.all c.in-Ok.ensures.bound (rw c.deref.ensures.value at c.in-Ok-rows_of.ensures.good)

pub returns-in-Ok-clause-refused : goal.returns-in-Ok-clause-refused
returns-in-Ok-clause-refused g c = records_judge c.args.shape.now (g.S.Source.left c.args.source.now) c.in-Ok.body.items c.in-Err-rows_of.exit c.in-Ok.ensures.all c.in-Ok.ensures.bound (rw c.deref.ensures.value at c.in-Err-rows_of.ensures.refused)

pub returns-clause-refused : goal.returns-clause-refused
returns-clause-refused g c = all_cut c.args.shape.now (g.S.Source.left c.args.source.now) c.in-Err.exit c.in-Err.ensures.refused
