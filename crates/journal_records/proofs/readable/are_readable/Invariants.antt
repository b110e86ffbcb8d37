use Rattle.std.proofs.Common.{◌≡◌, drop}
use Rattle.std.specs.List.{list_all}
use Rattle.journal_records.specs.Fitting.{readable_row}
use Rattle.journal_records.proofs.readable.are_readable.Given as goal

abbrev pub invariant-loop-place : goal.invariant-loop-place
invariant-loop-place l = list_all readable_row (drop l.place l.rows) ≡ list_all readable_row l.rows
