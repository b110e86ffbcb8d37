-- What the columns that are left give is what all give.
use Rattle.std.proofs.Common.{◌≡◌, drop}
use Rattle.partitions.specs.Columns as columns
use Rattle.partitions.proofs.columns.type_under.Given as goal

abbrev pub invariant-loop-column : goal.invariant-loop-column
invariant-loop-column l = columns.type_under (drop l.column-index l.defs) l.name ≡ columns.type_under l.defs l.name
