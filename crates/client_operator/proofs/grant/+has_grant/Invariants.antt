use Rattle.std.proofs.Common.{length}
use Rattle.client_operator.proofs.grant.+has_grant.Given as goal

abbrev pub decreases-has_grant : goal.decreases-has_grant
decreases-has_grant l = length l.lines.now
