use Rattle.std.proofs.Common.{◌≡◌, ◌++◌, drop, map, string_bytes}
use Rattle.service.specs.Columns.{columns_of}
use Rattle.service.proofs.columns.read_columns.Given as goal

abbrev pub invariant-loop-word : goal.invariant-loop-word
invariant-loop-word l = l.columns.items ++ columns_of (map string_bytes (drop l.word-index l.words)) ≡ columns_of (map string_bytes l.words)
