use Rattle.std.proofs.Common.{rules, true}
use Rattle.client_operator.specs.Expiry.{ExpiresAccount, done_at}
use Rattle.client_operator.specs.Talks.{at}
use Rattle.client_operator.proofs.Turns.{InTurn-next}
use Rattle.client_operator.proofs.expire.expire_each.Goals as goal

pub loop-index-preserved : goal.loop-index-preserved
loop-index-preserved g c = InTurn-next (ExpiresAccount c.args.expiry)
    (done_at (at g.W.Write.contents g.R.Read.remaining g.O.Write.contents c.args.peer.now c.args.output.now) true)
    (done_at (at g.W.Write.contents g.R.Read.remaining g.O.Write.contents c.loop-index.peer c.loop-index.output) c.loop-index.all_done)
    _ c.args.names.now c.loop-index.index c.index-names-index.result (search rules) c.index-names-index.is
    c.loop-index.invariant c.in_ok-all_done.ensures
