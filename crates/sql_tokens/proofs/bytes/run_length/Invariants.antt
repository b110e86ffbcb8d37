use Rattle.std.proofs.Common.{◌≡◌, ◌+◌, drop}
use Rattle.std.specs.List.{prefix_len}
use Rattle.sql_tokens.specs.Bytes.{is_of}
use Rattle.sql_tokens.proofs.bytes.run_length.Given as goal

abbrev pub invariant-loop-i : goal.invariant-loop-i
invariant-loop-i l = prefix_len (is_of l.class) l.text ≡ l.i + prefix_len (is_of l.class) (drop l.i l.text)
