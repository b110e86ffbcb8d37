use Rattle.journal_records.specs.Reading.{times, cell_at}
use Rattle.journal_records.specs.Encoded.{behind}
use Rattle.journal_records.proofs.Loops.{passes_on}
use Rattle.journal_records.proofs.past_rows.past_cells.Goals as goal

pub loop-preserved : goal.loop-preserved
loop-preserved c = passes_on cell_at c.args.count c.loop.counter c.loop.rest.now c.in_ok-rest.rest.now (behind (times c.args.count cell_at c.args.bytes.now)) c.loop-test.true c.in_ok-rest.ensures c.loop.invariant
