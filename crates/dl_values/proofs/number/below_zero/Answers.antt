use Rattle.std.proofs.Common.{◌∙◌, ap, sym, Some}
use Rattle.dl_values.specs.Read.{minus}
use Rattle.dl_values.proofs.NumberLemmas.{minus_is, minus_none, stored_minus}
use Rattle.dl_values.proofs.number.below_zero.Goals as goal

pub returns-in-None : goal.returns-in-None
returns-in-None c = minus_none c.args.digits.now c.in-None.ensures.none

pub returns-in-Some-eq0 : goal.returns-in-Some-eq0
returns-in-Some-eq0 c = ap (λ n. Some (minus n)) (sym c.in-Some-eq0.field-0-test) ∙ minus_is c.args.digits.now c.in-Some-eq0.field-0 c.in-Some-eq0.ensures.some.0 c.in-Some-eq0.ensures.some.1

pub returns-in-Some : goal.returns-in-Some
returns-in-Some c = ap Some (stored_minus c.in-Some.n c.in-Some.n-test.1 c.in-Some.ensures.some.1) ∙ minus_is c.args.digits.now c.in-Some.n c.in-Some.ensures.some.0 c.in-Some.ensures.some.1
