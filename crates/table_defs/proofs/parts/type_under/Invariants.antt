use Rattle.std.proofs.Common.{◌≡◌, drop}
use Rattle.partitions.specs.Columns.{type_under}
use Rattle.table_defs.proofs.parts.type_under.Given as goal

abbrev pub invariant-loop-column : goal.invariant-loop-column
invariant-loop-column l = type_under (drop l.column-index l.columns) l.name ≡ type_under l.columns l.name
