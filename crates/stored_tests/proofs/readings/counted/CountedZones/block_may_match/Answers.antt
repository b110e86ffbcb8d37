use Rattle.std.proofs.Common.{◌<◌, ◌∙◌, length, sym, arith}
use Rattle.stored_tests.specs.InBlocks.{found, one_more}
use Rattle.stored_tests.proofs.readings.counted.CountedZones.block_may_match.Goals as goal

pub returns-then-is_match : goal.returns-then-is_match
returns-then-is_match c =
    let rows = c.args.self.now.rows in
    let within : c.loop-place.place < length rows = omega (arith, c.loop-place-test.true, c.loop-place.invariant.all) in
    record { may = sym (found (length rows) rows c.args.block c.args.test.now c.loop-place.place within (sym c.is_match.ensures ∙ c.if-is_match.true)) }

pub loop-place-preserved : goal.loop-place-preserved
loop-place-preserved c =
    record {
      none = one_more c.loop-place.place c.args.self.now.rows c.args.block c.args.test.now c.loop-place.invariant.none (sym c.is_match.ensures ∙ c.if-is_match.false);
      all = c.loop-place.invariant.all;
    }
