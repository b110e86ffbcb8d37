use Rattle.std.proofs.Common.{◌<◌, ◌^◌}
use Rattle.dl_values.proofs.NumberLemmas.{IsReadTo}
use Rattle.dl_values.proofs.plain_int.few_digits.Given as goal

abbrev pub invariant-loop-digit : goal.invariant-loop-digit
invariant-loop-digit l = IsReadTo l.text l.digit-index l.value × (l.value < 10 ^ l.digit-index)
