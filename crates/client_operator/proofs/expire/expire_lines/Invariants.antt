use Rattle.std.proofs.Common.{map, take}
use Rattle.client_operator.specs.Expiry.{ExpiresLine, done_at}
use Rattle.client_operator.specs.Talks.{InTurn, at}
use Rattle.client_operator.proofs.expire.expire_lines.Given as goal

abbrev pub invariant-loop-line : goal.invariant-loop-line
invariant-loop-line g l = InTurn (ExpiresLine l.expiry l.account)
    (done_at (at g.W.Write.contents g.R.Read.remaining g.O.Write.contents l.initial.peer l.initial.output) l.done_before)
    (done_at (at g.W.Write.contents g.R.Read.remaining g.O.Write.contents l.peer l.output) l.all_done)
    (map (λ line. line.items) (take l.line-index l.lines))
