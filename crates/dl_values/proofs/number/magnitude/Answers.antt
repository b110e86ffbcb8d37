use Rattle.std.proofs.Common.{arith}
use Rattle.dl_values.proofs.NumberLemmas.{too_great}
use Rattle.dl_values.proofs.number.magnitude.Goals as goal

pub returns-then-value-clause-none : goal.returns-then-value-clause-none
returns-then-value-clause-none c = too_great c.args.digits.now c.loop-digit.digit-index c.loop-digit.value c.loop-digit-test.true (omega arith) c.loop-digit.invariant
