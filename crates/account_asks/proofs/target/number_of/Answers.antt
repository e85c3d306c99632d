use Rattle.std.proofs.Common.{arith}
use Rattle.account_rules.proofs.Digits.{more_digits}
use Rattle.account_asks.proofs.Digits.{so_far_below}
use Rattle.account_asks.proofs.target.number_of.Goals as goal

pub overflow_mul-number : goal.overflow_mul-number
overflow_mul-number c =
    let small = so_far_below c.args.digits.now c.loop-digit.digit-index c.requires.are_digits c.requires.few in
    omega (arith, c.loop-digit.invariant)

pub overflow_add-number : goal.overflow_add-number
overflow_add-number c =
    let small = so_far_below c.args.digits.now c.loop-digit.digit-index c.requires.are_digits c.requires.few in
    omega (arith, c.loop-digit.invariant)

pub loop-digit-preserved : goal.loop-digit-preserved
loop-digit-preserved c =
    let more = more_digits c.args.digits.now c.loop-digit.digit-index c.loop-digit.number c.requires.are_digits c.loop-digit-test.true c.loop-digit.invariant in
    cc

pub returns-clause-within : goal.returns-clause-within
returns-clause-within c =
    let small = so_far_below c.args.digits.now c.loop-digit.digit-index c.requires.are_digits c.requires.few in
    omega (arith, c.loop-digit.invariant)
