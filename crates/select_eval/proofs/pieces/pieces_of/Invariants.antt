-- The pieces of the first lists are there.
use Rattle.std.proofs.Common.{◌≡◌, map, take}
use Rattle.merge_read.specs.Lists.{AreSortedLists, joined}
use Rattle.schema_models.specs.ShapeView.{ShapeView}
use Rattle.select_eval.specs.Looks.{in_blocks, kept_rows}
use Rattle.select_eval.specs.Pieces.{cut}
use Rattle.select_eval.proofs.pieces.pieces_of.Given as goal

abbrev pub invariant-loop-list : goal.invariant-loop-list
invariant-loop-list g l = record {
  kept : joined (map (λ p. cut p.start p.end (g.R.SortedRows.rows p.list.now)) l.pieces.items) ≡ joined (map (kept_rows l.tests) (map (λ x. in_blocks (g.R.SortedRows.rows x) (g.R.Zones.blocks x) (g.R.Zones.may x)) (take l.list-index l.lists)));
  sorted : (s : ShapeView) → AreSortedLists s (map (λ x. g.R.SortedRows.rows x) l.lists) → AreSortedLists s (map (λ p. cut p.start p.end (g.R.SortedRows.rows p.list.now)) l.pieces.items);
}
