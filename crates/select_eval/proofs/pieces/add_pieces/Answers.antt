use Rattle.std.proofs.Common.{◌≤◌, length, map, subst, arith}
use Rattle.std.proofs.lemmas.Result.{on_ok_weaker}
use Rattle.merge_read.specs.Lists.{joined}
use Rattle.select_eval.specs.Looks.{stays}
use Rattle.select_eval.specs.Pieces.{cut}
use Rattle.select_eval.proofs.Cuts.{passed}
use Rattle.select_eval.proofs.pieces.add_pieces.Goals as goal

pub passing-preserved : goal.passing-preserved
passing-preserved g c =
    let list = c.args.list.now in
    let rows = g.R.SortedRows.rows list in
    let end = c.block_end-end.result in
    let after : c.passing.place ≤ end = omega (arith, c.block_end-end.ensures.after) in
    let within : end ≤ length rows = subst (λ z. end ≤ length z) c.requires.same c.block_end-end.ensures.end in
    record {
      ordered = c.in_ok-start.ensures.start;
      within = within;
      kept = passed (stays c.args.tests.now (g.R.Zones.blocks list) (g.R.Zones.may list)) (joined (map (λ p. cut p.start p.end (g.R.SortedRows.rows p.list.now)) c.passing.pieces.items)) (joined (map (λ p. cut p.start p.end (g.R.SortedRows.rows p.list.now)) c.pass_block.new.pieces.items)) (joined (map (λ p. cut p.start p.end (g.R.SortedRows.rows p.list.now)) c.args.pieces.now.items)) rows
          c.passing.start c.in_ok-start.start c.passing.place end after within c.in_ok-start.ensures.rows c.passing.invariant.kept;
      sorted = λ s h o. c.in_ok-start.ensures.sorted s h (c.passing.invariant.sorted s h o);
    }

pub returns-clause-sorted : goal.returns-clause-sorted
returns-clause-sorted g c = on_ok_weaker c.add_piece.result (λ last s h o. last s h (c.passing.invariant.sorted s h o)) c.add_piece.ensures.sorted
