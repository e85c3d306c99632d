use Rattle.std.proofs.Common.{length}
use Rattle.client_operator.proofs.grant.+refunded.Given as goal

abbrev pub decreases-refunded : goal.decreases-refunded
decreases-refunded l = length l.lines.now
