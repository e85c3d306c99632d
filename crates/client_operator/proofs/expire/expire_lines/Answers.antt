use Rattle.std.proofs.Common.{rules}
use Rattle.client_operator.specs.Expiry.{ExpiresLine, done_at}
use Rattle.client_operator.specs.Talks.{at}
use Rattle.client_operator.proofs.Turns.{InTurn-next-seen}
use Rattle.client_operator.proofs.expire.expire_lines.Goals as goal

pub loop-line-preserved : goal.loop-line-preserved
loop-line-preserved g c =
    let step = rw c.as_slice.ensures.value at c.in_ok-all_done.ensures in
    InTurn-next-seen (λ line. line.items) (ExpiresLine c.args.expiry c.args.account.now)
    (done_at (at g.W.Write.contents g.R.Read.remaining g.O.Write.contents c.args.peer.now c.args.output.now) c.args.done_before)
    (done_at (at g.W.Write.contents g.R.Read.remaining g.O.Write.contents c.loop-line.peer c.loop-line.output) c.loop-line.all_done)
    _ c.args.lines.now c.loop-line.line-index c.line-item.result (search rules) c.line-item.is
    c.loop-line.invariant step
