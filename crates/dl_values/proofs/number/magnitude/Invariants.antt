use Rattle.dl_values.proofs.NumberLemmas.{IsReadTo}
use Rattle.dl_values.proofs.number.magnitude.Given as goal

abbrev pub invariant-loop-digit : goal.invariant-loop-digit
invariant-loop-digit l = IsReadTo l.digits l.digit-index l.value
