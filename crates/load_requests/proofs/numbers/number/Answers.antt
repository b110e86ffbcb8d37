use Rattle.std.proofs.Common.{◌≤◌, slice_index_or, rules, arith}
use Rattle.load_requests.proofs.Digits.{fits}
use Rattle.load_requests.proofs.numbers.number.Goals as goal

pub overflow_mul-number : goal.overflow_mul-number
overflow_mul-number c = omega (arith, fits c.loop-digit.number c.loop-digit.digit-index c.loop-digit.invariant.small (omega (arith, c.requires, c.loop-digit-test.true)))

pub overflow_add-number : goal.overflow_add-number
overflow_add-number c =
    let most : slice_index_or c.args.digits.now c.loop-digit.digit-index 0 ≤ 57 = search rules in
    omega (arith, c.from.ensures, fits c.loop-digit.number c.loop-digit.digit-index c.loop-digit.invariant.small (omega (arith, c.requires, c.loop-digit-test.true)))
