use Rattle.std.proofs.Common.{◌≤◌, length}
use Rattle.ipp_notation.proofs.front.whole_length.Given as goal

abbrev pub invariant-loop : goal.invariant-loop
invariant-loop l = l.length ≤ length l.bytes
