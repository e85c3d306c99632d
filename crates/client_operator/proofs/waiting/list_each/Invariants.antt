use Rattle.std.proofs.Common.{take}
use Rattle.client_operator.specs.Talks.{InTurn, at}
use Rattle.client_operator.specs.Waiting.{ListsAccount}
use Rattle.client_operator.proofs.waiting.list_each.Given as goal

abbrev pub invariant-loop-index : goal.invariant-loop-index
invariant-loop-index g l = InTurn (ListsAccount l.age)
    (at g.W.Write.contents g.R.Read.remaining g.O.Write.contents l.initial.peer l.initial.output)
    (at g.W.Write.contents g.R.Read.remaining g.O.Write.contents l.peer l.output)
    (take l.index l.names)
