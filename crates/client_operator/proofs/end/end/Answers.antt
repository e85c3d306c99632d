use Rattle.std.proofs.Common.{ap}
use Rattle.client_lines.specs.Peers.{writer_of}
use Rattle.client_operator.proofs.Told.{EndsProcess-of}
use Rattle.client_operator.proofs.end.end.Goals as goal

pub returns : goal.returns
returns g c =
    EndsProcess-of c.hear_end.result _ _ (g.W.Write.contents (writer_of c.hear_end.new.self)) _
    c.in_ok-tell.ensures (ap g.W.Write.contents c.hear_end.ensures.writer)
    c.hear_end.ensures.nothing c.hear_end.ensures.end
