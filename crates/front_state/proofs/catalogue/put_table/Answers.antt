use Rattle.std.proofs.Common.{◌∙◌}
use Rattle.front_state.proofs.Named.{put_last}
use Rattle.front_state.proofs.catalogue.put_table.Goals as goal

pub returns-in-Ok-clause-ok : goal.returns-in-Ok-clause-ok
returns-in-Ok-clause-ok c = c.in-Ok.ensures.entries ∙ put_last c.args.tables.now.entries c.args.key c.args.table c.requires
