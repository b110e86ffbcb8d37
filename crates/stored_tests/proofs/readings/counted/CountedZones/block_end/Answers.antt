use Rattle.std.proofs.Common.{◌≡◌, ◌<◌, ◌≤◌, ◌+◌, ◌-◌, ◌%◌, ◌∙◌, length, sym, arith}
use Rattle.stored_tests.specs.InBlocks.{number_of, same_block}
use Rattle.stored_tests.proofs.readings.counted.CountedZones.block_end.Goals as goal

pub returns-clause-together : goal.returns-clause-together
returns-clause-together c = λ i a b.
    let rows = c.args.self.now.rows in
    let end : c.min.result ≤ c.args.place - c.args.place % 1024 + 1024 = omega (arith, c.min.ensures, c.saturating_add.ensures) in
    let within : i < length rows = omega (arith, c.min.ensures, c.len.ensures, b) in
    number_of rows i within ∙ same_block c.args.place c.min.result i end a b ∙ sym (number_of rows c.args.place c.requires.within)
