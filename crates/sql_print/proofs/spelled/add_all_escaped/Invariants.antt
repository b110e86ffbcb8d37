use Rattle.std.proofs.Common.{◌≡◌, ◌++◌, drop}
use Rattle.sql_print.specs.Printing.{escapes}
use Rattle.sql_print.proofs.spelled.add_all_escaped.Given as goal

abbrev pub invariant-loop-byte : goal.invariant-loop-byte
invariant-loop-byte l = l.out.items ++ escapes (drop l.byte-index l.bytes) ≡ l.initial.out.items ++ escapes l.bytes
