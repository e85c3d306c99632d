use Rattle.std.proofs.Common.{map}
use Rattle.client_operator.proofs.FreeMonths.{HasLaterGrants}
use Rattle.client_operator.proofs.grant.unused_refund_month.Given as goal

abbrev pub invariant-loop-back : goal.invariant-loop-back
invariant-loop-back l = HasLaterGrants (map (λ line. line.items) l.lines) l.back
