use Rattle.std.proofs.Common.{arith, lit≤}
use Rattle.std.proofs.lemmas.Str.Parse.{digits_value-take-le}
use Rattle.account_rules.proofs.Digits.{more_digits}
use Rattle.input_http.proofs.FewDigits.{own_below, so_far_below}
use Rattle.input_http.proofs.digits.number_of.Goals as goal

pub overflow_mul-number : goal.overflow_mul-number
overflow_mul-number c =
    let small = so_far_below c.args.digits.now c.loop-digit.digit-index c.requires.are_digits c.requires.few in
    omega (arith, c.loop-digit.invariant)

pub overflow_add-number : goal.overflow_add-number
overflow_add-number c =
    let small = so_far_below c.args.digits.now c.loop-digit.digit-index c.requires.are_digits c.requires.few in
    omega (arith, c.loop-digit.invariant)

pub loop-digit-preserved : goal.loop-digit-preserved
loop-digit-preserved c =
    let more = more_digits c.args.digits.now c.loop-digit.digit-index c.loop-digit.number c.requires.are_digits c.loop-digit-test.true c.loop-digit.invariant in
    cc

pub returns-clause-within : goal.returns-clause-within
returns-clause-within c =
    let so_far = digits_value-take-le 10 c.args.digits.now c.loop-digit.digit-index (lit≤ tt) in
    let own = own_below c.args.digits.now c.requires.are_digits in
    omega (arith, c.loop-digit.invariant)
