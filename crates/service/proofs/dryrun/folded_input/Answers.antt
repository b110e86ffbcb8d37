use Rattle.service.proofs.Dryruns.{text_is}
use Rattle.service.proofs.dryrun.folded_input.Goals as goal

pub returns-in-Ok-folded_text-clause-text : goal.returns-in-Ok-folded_text-clause-text
returns-in-Ok-folded_text-clause-text g c = text_is c.args.shape.now (g.S.Source.left c.args.source.now) c.in-Ok.rows c.in-Ok-folded_text.text.items c.in-Ok-folded_text.ensures c.in-Ok.ensures.rows
