use Rattle.std.proofs.Common.{◌≡◌, ◌+◌, ◌<◌, length}
use Rattle.client_lines.specs.Replies.{Answered}
use Rattle.client_lines.specs.Sending.{SendsOn}
use Rattle.client_lines.proofs.lines.send_lines.Given as goal

abbrev pub invariant-loop-number : goal.invariant-loop-number
invariant-loop-number g l = SendsOn (g.I.Read.remaining l.initial.input) (g.I.Read.remaining l.input)
    (g.W.Write.contents l.initial.peer.writer) (g.W.Write.contents l.peer.writer)
    × ((done : Answered (g.K.Keeper.shown l.initial.keeper)
    (g.W.Write.contents l.initial.peer.writer) (g.W.Write.contents l.peer.writer)
    (g.R.Read.remaining l.initial.peer.reader) (g.R.Read.remaining l.peer.reader)
    (g.O.Write.contents l.initial.output) (g.O.Write.contents l.output) l.outcome)
    × (l.number ≡ length done.replies + 1))
    × (g.K.Keeper.shown l.keeper ≡ g.K.Keeper.shown l.initial.keeper)
    × (l.outcome.refused < l.number)
