use Rattle.select_eval.specs.Pieces.{cut}
use Rattle.select_eval.proofs.Cuts.{one_sorted}
use Rattle.select_eval.proofs.pieces.add_piece.Goals as goal

pub returns-in_ok-push-clause-sorted : goal.returns-in_ok-push-clause-sorted
returns-in_ok-push-clause-sorted g c = λ s h olds.
    one_sorted (λ p. cut p.start p.end (g.R.SortedRows.rows p.list.now)) s c.args.pieces.now.items c.push.new.self.items c.new.result c.args.start c.args.end (g.R.SortedRows.rows c.args.list.now)
    c.in_ok-push.ensures.items c.new.ensures h olds
