-- The names of the first columns are copied.
use Rattle.std.proofs.Common.{◌≡◌, take}
use Rattle.schema_models.specs.CellsByName as by_name
use Rattle.partitions.proofs.columns.names_of.Given as goal

abbrev pub invariant-loop-column : goal.invariant-loop-column
invariant-loop-column l = l.all ≡ by_name.names_of (take l.column-index l.defs)
