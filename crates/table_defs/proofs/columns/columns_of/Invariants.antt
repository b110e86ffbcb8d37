use Rattle.std.proofs.Common.{◌≡◌, ◌++◌, drop}
use Rattle.table_defs.specs.Columns.{columns_of}
use Rattle.table_defs.proofs.columns.columns_of.Given as goal

abbrev pub invariant-loop-column : goal.invariant-loop-column
invariant-loop-column l = l.all.items ++ columns_of l.left (drop l.column-index l.list) ≡ columns_of l.keys l.list
