use Rattle.std.proofs.Common.{◌∙◌, sym, arith, ◌<◌}
use Rattle.dl_values.proofs.NumberLemmas.{spelled}
use Rattle.dl_values.proofs.PlainLemmas.{few_is, many_digits, no_digits, other_byte, small, some_digits}
use Rattle.dl_values.proofs.plain_int.few_digits.Goals as goal

pub returns-then-is_empty : goal.returns-then-is_empty
returns-then-is_empty c = no_digits c.args.text.now (sym c.is_empty.ensures ∙ c.if-is_empty.true)

pub returns-then-text-gt-MOST_DIGITS : goal.returns-then-text-gt-MOST_DIGITS
returns-then-text-gt-MOST_DIGITS c = many_digits c.args.text.now c.if-text-gt-MOST_DIGITS.true

pub returns-then-not-is_ascii_digit : goal.returns-then-not-is_ascii_digit
returns-then-not-is_ascii_digit c = other_byte c.args.text.now c.loop-digit.digit-index c.loop-digit.value c.loop-digit-test.true (sym c.is_ascii_digit.ensures.value ∙ c.if-not-is_ascii_digit.true) c.loop-digit.invariant.0

pub overflow_mul-value : goal.overflow_mul-value
overflow_mul-value c = let s : c.loop-digit.value < 100000000000000000 = small c.loop-digit.value c.loop-digit.digit-index c.loop-digit.invariant.1 (omega arith) in omega arith

pub overflow_add-value : goal.overflow_add-value
overflow_add-value c = let s : c.loop-digit.value < 100000000000000000 = small c.loop-digit.value c.loop-digit.digit-index c.loop-digit.invariant.1 (omega arith) in omega arith

pub returns : goal.returns
returns c = few_is c.args.text.now c.loop-digit.value (spelled c.args.text.now c.loop-digit.digit-index c.loop-digit.value (some_digits c.args.text.now (sym c.is_empty.ensures ∙ c.if-is_empty.false)) (omega arith) c.loop-digit.invariant.0) (omega arith)
