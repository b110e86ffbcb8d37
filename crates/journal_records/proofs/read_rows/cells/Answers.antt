use Rattle.journal_records.specs.Reading.{times, cell_at}
use Rattle.journal_records.proofs.Loops.{goes_on}
use Rattle.journal_records.proofs.read_rows.cells.Goals as goal

pub loop-preserved : goal.loop-preserved
loop-preserved c = rw c.in_ok-push.ensures.ok (goes_on cell_at c.loop.row c.args.count c.loop.counter c.loop.rest.now c.in_ok-cell.cell c.in_ok-cell.after.now (times c.args.count cell_at c.args.bytes.now) c.loop-test.true c.in_ok-cell.ensures c.loop.invariant)
