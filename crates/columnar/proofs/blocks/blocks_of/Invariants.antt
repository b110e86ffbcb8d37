-- The blocks have the first rows, and all of them are full as long as there are more.
use Rattle.std.proofs.Common.{◌≡◌, ◌<◌, ◌≤◌, ◌-◌, ◌++◌, length, drop}
use Rattle.std.specs.List.{AllByRecursion}
use Rattle.columnar.specs.Blocks.{AreFull, all_rows}
use Rattle.columnar.proofs.blocks.blocks_of.Given as goal

abbrev pub invariant-loop-start : goal.invariant-loop-start
invariant-loop-start l = record {
  within : l.start ≤ length l.rows;
  so_far : all_rows l.blocks.items ++ drop l.start l.rows ≡ l.rows;
  full : AreFull l.blocks.items;
  ready : l.start < length l.rows → AllByRecursion (λ b. length b ≡ 1024) l.blocks.items;
}

abbrev pub decreases-loop-start : goal.decreases-loop-start
decreases-loop-start l = length l.rows - l.start
