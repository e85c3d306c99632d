use Rattle.std.proofs.Common.{◌≡◌, length}
use Rattle.input_http.specs.Words.{without_front}
use Rattle.input_http.proofs.words.without_front.Given as goal

abbrev pub invariant-loop-bytes : goal.invariant-loop-bytes
invariant-loop-bytes l = without_front l.margin l.bytes ≡ without_front l.margin l.fn.bytes

abbrev pub decreases-loop-bytes : goal.decreases-loop-bytes
decreases-loop-bytes l = length l.bytes
