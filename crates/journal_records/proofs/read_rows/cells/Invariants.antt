use Rattle.std.proofs.Common.{◌≡◌, ◌-◌}
use Rattle.journal_records.specs.Reading.{times, cell_at}
use Rattle.journal_records.proofs.Loops.{with_front}
use Rattle.journal_records.proofs.read_rows.cells.Given as goal

abbrev pub invariant-loop : goal.invariant-loop
invariant-loop l = with_front l.row (times (l.count - l.counter) cell_at l.rest) ≡ times l.count cell_at l.bytes
