use Rattle.std.proofs.Common.{◌≡◌, ◌-◌}
use Rattle.journal_records.specs.Reading.{times, row_at}
use Rattle.journal_records.specs.Encoded.{behind}
use Rattle.journal_records.proofs.past_rows.past_rows_of.Given as goal

abbrev pub invariant-loop : goal.invariant-loop
invariant-loop l = behind (times (l.count - l.counter) row_at l.rest) ≡ behind (times l.count row_at l.bytes)
