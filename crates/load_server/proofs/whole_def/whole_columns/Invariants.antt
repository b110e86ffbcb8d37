use Rattle.std.proofs.Common.{◌≡◌, take, map}
use Rattle.load_server.specs.WholeDef.{whole_column}
use Rattle.load_server.proofs.whole_def.whole_columns.Given as goal

abbrev pub invariant-loop-column : goal.invariant-loop-column
invariant-loop-column l = l.whole ≡ map whole_column (take l.column-index l.columns)
