use Rattle.std.proofs.Common.{◌≡◌, ◌-◌}
use Rattle.journal_records.specs.Reading.{times, cell_at}
use Rattle.journal_records.specs.Encoded.{behind}
use Rattle.journal_records.proofs.past_rows.past_cells.Given as goal

abbrev pub invariant-loop : goal.invariant-loop
invariant-loop l = behind (times (l.count - l.counter) cell_at l.rest) ≡ behind (times l.count cell_at l.bytes)
