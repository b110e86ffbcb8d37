use Rattle.std.proofs.lemmas.Result.{err_from_is_err_and}
use Rattle.load_requests.specs.Statements.{comma_at, column_at}
use Rattle.load_requests.proofs.Lists.{columns_are, fails, goes_on, ends, lacks_item, lacks_comma, shrinks}
use Rattle.load_requests.proofs.reading.columns.Goals as goal

pub returns-in_err-one : goal.returns-in_err-one
returns-in_err-one c =
    let p = err_from_is_err_and c.from_residual.result c.from_residual.ensures.1 in
    rw (p.1, p.2) (fails _ (column_at _) _ (λ e. lacks_item columns_are _ _ _ e c.more.invariant) c.in_err-one.ensures)

pub returns-in_err-goes_on : goal.returns-in_err-goes_on
returns-in_err-goes_on c =
    let p = err_from_is_err_and c.from_residual-in_err-goes_on.result c.from_residual-in_err-goes_on.ensures.1 in
    rw (p.1, p.2) (fails _ (comma_at _) _ (λ e. lacks_comma columns_are _ _ _ _ _ c.in_ok-one.ensures e c.more.invariant) c.in_err-goes_on.ensures)

pub returns-then-not-goes_on : goal.returns-then-not-goes_on
returns-then-not-goes_on c = rw c.in_ok-push.ensures.ok (ends columns_are _ _ _ _ _ _ _ c.in_ok-one.ensures c.in_ok-goes_on.ensures c.if-not-goes_on.true c.more.invariant)

pub more-smaller : goal.more-smaller
more-smaller c = shrinks columns_are _ _ _ _ _ c.in_ok-one.ensures c.in_ok-goes_on.ensures

pub more-preserved : goal.more-preserved
more-preserved c = rw c.in_ok-push.ensures.ok (goes_on columns_are _ _ _ _ _ _ _ c.in_ok-one.ensures c.in_ok-goes_on.ensures c.if-not-goes_on.false c.more.invariant)
