use Rattle.journal_records.specs.Reading.{times, row_at}
use Rattle.journal_records.proofs.Loops.{goes_on}
use Rattle.journal_records.proofs.read_rows.rows_of.Goals as goal

pub loop-preserved : goal.loop-preserved
loop-preserved c = rw c.in_ok-push.ensures.ok (goes_on row_at c.loop.rows c.args.count c.loop.counter c.loop.rest.now c.in_ok-row.row c.in_ok-row.after.now (times c.args.count row_at c.args.bytes.now) c.loop-test.true c.in_ok-row.ensures c.loop.invariant)
