-- The first cells have the row.
use Rattle.std.proofs.Common.{◌≡◌, ◌≤◌, ◌++◌, take, drop, length, min}
use Rattle.merge_read.specs.Merged.{row_of}
use Rattle.select_eval.specs.Outputs.{grown}
use Rattle.select_eval.proofs.group.Group.add.Given as goal

abbrev pub invariant-loop-i : goal.invariant-loop-i
invariant-loop-i l = record {
  as_many : l.i-end ≡ min (length l.self-inside.cells.items) (length l.list);
  within_cells : l.i-end ≤ length l.self-inside.cells.items;
  within_list : l.i-end ≤ length l.list;
  so_far : take l.i l.self-inside.cells.items ++ grown (drop l.i l.list) (drop l.i l.self-inside.cells.items) (row_of l.row) ≡ grown l.list l.fn.self (row_of l.row);
}
