use Rattle.std.proofs.Common.{sym}
use Rattle.columnar.proofs.ZoneLemmas.{number_at}
use Rattle.columnar.proofs.blocks.BlocksZones.block_of.Goals as goal

pub returns : goal.returns
returns c = record { block = sym (number_at c.args.self.now.rows c.args.place c.requires.within) }
