use Rattle.std.proofs.Common.{rules}
use Rattle.client_operator.specs.Waiting.{ListsAccount}
use Rattle.client_operator.specs.Talks.{at}
use Rattle.client_operator.proofs.Turns.{InTurn-next}
use Rattle.client_operator.proofs.waiting.list_each.Goals as goal

pub loop-index-preserved : goal.loop-index-preserved
loop-index-preserved g c = InTurn-next (ListsAccount c.args.age)
    (at g.W.Write.contents g.R.Read.remaining g.O.Write.contents c.args.peer.now c.args.output.now)
    (at g.W.Write.contents g.R.Read.remaining g.O.Write.contents c.loop-index.peer c.loop-index.output)
    (at g.W.Write.contents g.R.Read.remaining g.O.Write.contents c.list_account.new.peer c.list_account.new.output)
    c.args.names.now c.loop-index.index c.index-names-index.result (search rules) c.index-names-index.is
    c.loop-index.invariant c.in_ok-list_account.ensures
