-- The first lists have their heads.
use Rattle.std.proofs.Common.{◌≡◌, ◌+◌, ◌≤◌, map, length}
use Rattle.merge_read.specs.Rests.{AreHeads, unread}
use Rattle.merge_read.proofs.next_heads.load_heads.Given as goal

abbrev pub invariant-loop-list : goal.invariant-loop-list
invariant-loop-list g l = record {
  heads : AreHeads l.shape l.list (map (λ x. g.R.SortedRows.rows x) l.lists) l.others.items;
  few : length l.others.items ≤ l.list;
  room : length l.lists ≤ l.others.room;
  grown : l.initial.others.room ≤ l.others.room;
  counted : l.steps + unread l.list (map (λ x. g.R.SortedRows.rows x) l.lists) ≡ l.initial.steps + unread 0 (map (λ x. g.R.SortedRows.rows x) l.lists);
}
