use Rattle.std.proofs.Common.{◌∙◌, ap, map, sym}
use Rattle.std.specs.List.{list_all}
use Rattle.merge_read.specs.Lists.{joined}
use Rattle.select_eval.specs.Looks.{stays}
use Rattle.select_eval.specs.Pieces.{cut}
use Rattle.select_eval.proofs.Cuts.{block_goes, block_stays}
use Rattle.select_eval.proofs.pieces.pass_block.Goals as goal

pub returns-then-stays-clause-rows : goal.returns-then-stays-clause-rows
returns-then-stays-clause-rows g c =
    let tests = c.args.tests.now in let may = g.R.Zones.may c.args.list.now in
    block_stays (stays tests (g.R.Zones.blocks c.args.list.now) may) (joined (map (λ p. cut p.start p.end (g.R.SortedRows.rows p.list.now)) c.args.pieces.now.items)) (g.R.SortedRows.rows c.args.list.now) c.args.start c.args.place c.args.end
    c.requires.ordered c.requires.before c.requires.within (λ j a b. ap (λ z. list_all (may z) tests) (c.requires.together j a b) ∙ sym c.stays.ensures ∙ c.if-stays.true)

pub returns-clause-rows : goal.returns-clause-rows
returns-clause-rows g c =
    let tests = c.args.tests.now in let may = g.R.Zones.may c.args.list.now in
    block_goes (stays tests (g.R.Zones.blocks c.args.list.now) may) (joined (map (λ p. cut p.start p.end (g.R.SortedRows.rows p.list.now)) c.args.pieces.now.items))
    (joined (map (λ p. cut p.start p.end (g.R.SortedRows.rows p.list.now)) c.add_piece.new.pieces.items)) (g.R.SortedRows.rows c.args.list.now) c.args.start c.args.place c.args.end
    c.requires.before c.requires.within (λ j a b. ap (λ z. list_all (may z) tests) (c.requires.together j a b) ∙ sym c.stays.ensures ∙ c.if-stays.false) c.in_ok-add_piece.ensures.rows
