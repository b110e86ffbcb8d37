use Rattle.std.proofs.Common.{ap, is_ok}
use Rattle.std.proofs.lemmas.Result.{err_from_is_err_and}
use Rattle.std.proofs.ResultArms.{chosen}
use Rattle.sql_grammar.specs.Reading.{mark_of, separator_at}
use Rattle.sql_grammar.proofs.Loops.{fails, begins, goes_on, fails_after, ends}
use Rattle.sql_grammar.proofs.lists.list_from.Goals as goal

pub more-init : goal.more-init
more-init g c =
    let pushed = chosen _ _ _ _ c.push.ensures.items (ap is_ok c.in_ok-push.was) in
    rw (pushed, c.new-found.ensures.items) (begins (mark_of c.args.separator) (separator_at c.args.separator) g.T.Piece.reader _ _)

pub returns-in_err-piece : goal.returns-in_err-piece
returns-in_err-piece g c =
    let p = err_from_is_err_and c.from_residual-in_err-piece.result c.from_residual-in_err-piece.ensures.1 in
    rw (p.1, p.2) (fails _ (g.T.Piece.reader _) _ (λ n e. fails_after (mark_of c.args.separator) (separator_at c.args.separator) g.T.Piece.reader _ _ _ _ n c.in-Some.ensures.0 c.in-Some.ensures.1 c.in-Some.ensures.2 e c.more.invariant) c.in_err-piece.ensures.gives)

pub more-preserved : goal.more-preserved
more-preserved g c =
    let pushed = chosen _ _ _ _ c.push-in-Some.ensures.items (ap is_ok c.in_ok-push-2.was) in
    rw pushed (goes_on (mark_of c.args.separator) (separator_at c.args.separator) g.T.Piece.reader _ _ _ _ _ _ c.in-Some.ensures.0 c.in-Some.ensures.1 c.in-Some.ensures.2 c.in_ok-piece.ensures.gives c.in_ok-piece.ensures.shorter c.more.invariant)

pub returns : goal.returns
returns g c = rw c.from_vec.ensures (ends (mark_of c.args.separator) (separator_at c.args.separator) g.T.Piece.reader _ _ _ c.in_default.ensures c.more.invariant)
