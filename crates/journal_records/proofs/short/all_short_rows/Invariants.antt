use Rattle.std.proofs.Common.{◌≡◌, drop}
use Rattle.std.specs.List.{list_all}
use Rattle.journal_records.specs.Fitting.{short_row}
use Rattle.journal_records.proofs.short.all_short_rows.Given as goal

abbrev pub invariant-loop-place : goal.invariant-loop-place
invariant-loop-place l = list_all short_row (drop l.place l.rows) ≡ list_all short_row l.rows
