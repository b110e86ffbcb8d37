-- What the columns that are left give is what all give.
use Rattle.std.proofs.Common.{◌≡◌, drop}
use Rattle.partitions.specs.Columns as columns
use Rattle.partitions.proofs.columns.is_key_name.Given as goal

abbrev pub invariant-loop-column : goal.invariant-loop-column
invariant-loop-column l = columns.is_key_name (drop l.column-index l.defs) l.name ≡ columns.is_key_name l.defs l.name
