use Rattle.std.proofs.Common.{take, true}
use Rattle.client_operator.specs.Expiry.{ExpiresAccount, done_at}
use Rattle.client_operator.specs.Talks.{InTurn, at}
use Rattle.client_operator.proofs.expire.expire_each.Given as goal

abbrev pub invariant-loop-index : goal.invariant-loop-index
invariant-loop-index g l = InTurn (ExpiresAccount l.expiry)
    (done_at (at g.W.Write.contents g.R.Read.remaining g.O.Write.contents l.initial.peer l.initial.output) true)
    (done_at (at g.W.Write.contents g.R.Read.remaining g.O.Write.contents l.peer l.output) l.all_done)
    (take l.index l.names)
