use Rattle.std.proofs.Common.{sym}
use Rattle.stored_tests.specs.InBlocks.{number_of}
use Rattle.stored_tests.proofs.readings.counted.CountedZones.block_of.Goals as goal

pub returns : goal.returns
returns c = record { block = sym (number_of c.args.self.now.rows c.args.place c.requires.within) }
