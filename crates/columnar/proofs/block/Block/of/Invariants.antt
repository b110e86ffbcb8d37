-- The first columns have been added.
use Rattle.std.proofs.Common.{◌≡◌, take, drop}
use Rattle.std.specs.List.{flat_map, range_with_len}
use Rattle.columnar.specs.Blocks.{column_of, zones_of}
use Rattle.columnar.proofs.block.Block.of.Given as goal

abbrev pub invariant-loop-column : goal.invariant-loop-column
invariant-loop-column l = record {
  cells : l.cells.items ≡ flat_map (λ c. column_of c (take l.count (drop l.start l.rows))) (range_with_len 0 l.column);
  zones : l.zones.items ≡ zones_of l.column (take l.count (drop l.start l.rows));
}
