use Rattle.std.proofs.Common.{◌≡◌, ◌++◌, length, take}
use Rattle.std.specs.List.{flat_map, AllByRecursion}
use Rattle.journal_records.specs.Fitting.{InWidth}
use Rattle.journal_records.specs.Spelling.{number32, row}
use Rattle.journal_records.proofs.write_fields.put_rows.Given as goal

abbrev pub invariant-loop-place : goal.invariant-loop-place
invariant-loop-place l = (l.out.items ≡ l.fn.out.items ++ (number32 (length l.rows) ++ flat_map row (take l.place l.rows))) × AllByRecursion (AllByRecursion InWidth) (take l.place l.rows)
