-- Of the rows before the place those are kept whose blocks stay.
use Rattle.std.proofs.Common.{◌≡◌, ◌-◌, ◌≤◌, ◌++◌, drop, length, map}
use Rattle.merge_read.specs.Lists.{AreSortedLists, IsSortedList, joined}
use Rattle.schema_models.specs.ShapeView.{ShapeView}
use Rattle.select_eval.specs.Looks.{kept_from, stays}
use Rattle.select_eval.specs.Pieces.{cut}
use Rattle.select_eval.proofs.pieces.add_pieces.Given as goal

abbrev pub invariant-passing : goal.invariant-passing
invariant-passing g l = record {
  ordered : l.start ≤ l.place;
  within : l.place ≤ length (g.R.SortedRows.rows l.list);
  kept : (joined (map (λ p. cut p.start p.end (g.R.SortedRows.rows p.list.now)) l.pieces.items) ++ cut l.start l.place (g.R.SortedRows.rows l.list)) ++ kept_from (stays l.tests (g.R.Zones.blocks l.list) (g.R.Zones.may l.list)) l.place (drop l.place (g.R.SortedRows.rows l.list))
      ≡ joined (map (λ p. cut p.start p.end (g.R.SortedRows.rows p.list.now)) l.initial.pieces.items) ++ kept_from (stays l.tests (g.R.Zones.blocks l.list) (g.R.Zones.may l.list)) 0 (g.R.SortedRows.rows l.list);
  sorted : (s : ShapeView) → IsSortedList s (g.R.SortedRows.rows l.list) → AreSortedLists s (map (λ p. cut p.start p.end (g.R.SortedRows.rows p.list.now)) l.initial.pieces.items)
      → AreSortedLists s (map (λ p. cut p.start p.end (g.R.SortedRows.rows p.list.now)) l.pieces.items);
}

abbrev pub decreases-passing : goal.decreases-passing
decreases-passing g l = l.count - l.place
