use Rattle.std.proofs.Common.{◌≡◌, ◌-◌}
use Rattle.journal_records.specs.Reading.{times}
use Rattle.journal_records.proofs.Loops.{with_front}
use Rattle.journal_records.proofs.lists.pieces_of.Given as goal

abbrev pub invariant-loop : goal.invariant-loop
invariant-loop g l = with_front l.pieces (times (l.count - l.counter) (g.T.Piece.reader l.format) l.rest) ≡ times l.count (g.T.Piece.reader l.format) l.bytes
