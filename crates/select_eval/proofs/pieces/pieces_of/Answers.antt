use Rattle.std.proofs.Common.{map}
use Rattle.merge_read.specs.Lists.{joined}
use Rattle.select_eval.specs.Looks.{in_blocks, kept_rows}
use Rattle.select_eval.specs.Pieces.{cut}
use Rattle.select_eval.proofs.Cuts.{kept_more, same_at, sorted_at}
use Rattle.select_eval.proofs.pieces.pieces_of.Goals as goal

pub add_pieces-requires : goal.add_pieces-requires
add_pieces-requires g c = record {
  same = same_at (λ l. g.R.Zones.rows l) (λ l. g.R.SortedRows.rows l) c.loop-list.list-index c.args.lists.now c.list-item.result c.requires.same c.loop-list-test.true c.list-item.is;
}

pub loop-list-preserved : goal.loop-list-preserved
loop-list-preserved g c =
    let of = map (λ p. cut p.start p.end (g.R.SortedRows.rows p.list.now)) in
    record {
      kept = kept_more (λ x. in_blocks (g.R.SortedRows.rows x) (g.R.Zones.blocks x) (g.R.Zones.may x)) (kept_rows c.args.tests.now) c.args.lists.now c.loop-list.list-index c.list-item.result
          (joined (of c.loop-list.pieces.items)) (joined (of c.add_pieces.new.pieces.items)) c.loop-list-test.true c.list-item.is c.loop-list.invariant.kept c.in_ok-add_pieces.ensures.rows;
      sorted = λ s h. c.in_ok-add_pieces.ensures.sorted s (sorted_at (λ x. g.R.SortedRows.rows x) s c.loop-list.list-index c.args.lists.now c.list-item.result h c.loop-list-test.true c.list-item.is) (c.loop-list.invariant.sorted s h);
    }
