use Rattle.journal_records.specs.Reading.{times}
use Rattle.journal_records.proofs.Loops.{goes_on}
use Rattle.journal_records.proofs.lists.pieces_of.Goals as goal

pub loop-preserved : goal.loop-preserved
loop-preserved g c = rw c.in_ok-push.ensures.ok (goes_on (g.T.Piece.reader c.args.format) c.loop.pieces c.args.count c.loop.counter c.loop.rest.now c.in_ok-piece.piece c.in_ok-piece.after.now (times c.args.count (g.T.Piece.reader c.args.format) c.args.bytes.now) c.loop-test.true c.in_ok-piece.ensures c.loop.invariant)
