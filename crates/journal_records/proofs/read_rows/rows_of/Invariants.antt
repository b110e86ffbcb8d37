use Rattle.std.proofs.Common.{◌≡◌, ◌-◌}
use Rattle.journal_records.specs.Reading.{times, row_at}
use Rattle.journal_records.proofs.Loops.{with_front}
use Rattle.journal_records.proofs.read_rows.rows_of.Given as goal

abbrev pub invariant-loop : goal.invariant-loop
invariant-loop l = with_front l.rows (times (l.count - l.counter) row_at l.rest) ≡ times l.count row_at l.bytes
