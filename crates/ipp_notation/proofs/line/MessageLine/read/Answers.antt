use Rattle.std.proofs.Common.{rules}
use Rattle.ipp_notation.proofs.Parted.{no_message}
use Rattle.ipp_notation.proofs.line.MessageLine.read.Goals as goal

pub returns-in-Err-Malformed-clause-other : goal.returns-in-Err-Malformed-clause-other
returns-in-Err-Malformed-clause-other c =
    λ none. no_message c.args.line.now c.in-Some.digits.now c.in-Some.origin c.in-Some.words.now c.in-Some.ensures.parted (c.in-Err-Malformed.ensures.malformed (search rules))
