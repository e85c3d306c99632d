use Rattle.std.proofs.Common.{arith}
use Rattle.input_http.proofs.FewDigits.{eighteen_below}
use Rattle.serve_web.proofs.digits.large_number.Goals as goal

pub returns-then-is_number-clause-within : goal.returns-then-is_number-clause-within
returns-then-is_number-clause-within c =
    grind (arith, c.number_of.ensures.within, eighteen_below, c.if-is_number.true)
