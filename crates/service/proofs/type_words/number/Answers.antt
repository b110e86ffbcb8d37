use Rattle.std.proofs.Common.{◌<◌, ◌≤◌, length, arith}
use Rattle.service.proofs.Digits.{room}
use Rattle.service.proofs.type_words.number.Goals as goal

pub overflow_mul-value : goal.overflow_mul-value
overflow_mul-value c = let r = room c.loop-digit.value c.loop-digit.digit-index (length c.args.digits.now) c.loop-digit.invariant.small c.loop-digit-test.true c.requires in omega (arith, r)

pub overflow_add-value : goal.overflow_add-value
overflow_add-value c = let r = room c.loop-digit.value c.loop-digit.digit-index (length c.args.digits.now) c.loop-digit.invariant.small c.loop-digit-test.true c.requires in omega (arith, r, c.from.ensures, c.from.type_inv, c.if-not-is_ascii_digit.ensures.bound)
