use Rattle.std.proofs.Common.{◌∙◌, ap, Some, ◌≤◌, subst}
use Rattle.dl_values.proofs.NumberLemmas.{MOST, le_of_lt, only_spelled, plus_is, plus_none, stored_plus}
use Rattle.dl_values.proofs.number.from_zero.Goals as goal

pub returns-in-None : goal.returns-in-None
returns-in-None c = plus_none c.args.digits.now (λ n spells. le_of_lt MOST n (c.in-None.ensures.none n spells))

pub returns-then-n-lt-MOST : goal.returns-then-n-lt-MOST
returns-then-n-lt-MOST c = ap Some (stored_plus c.in-Some.n c.if-n-lt-MOST.true) ∙ plus_is c.args.digits.now c.in-Some.n c.in-Some.ensures.some.0 c.if-n-lt-MOST.true

pub returns-else-n-lt-MOST : goal.returns-else-n-lt-MOST
returns-else-n-lt-MOST c = plus_none c.args.digits.now (λ n spells. subst (λ k. MOST ≤ k) (only_spelled c.args.digits.now c.in-Some.n n c.in-Some.ensures.some.0 spells) c.if-n-lt-MOST.false)
