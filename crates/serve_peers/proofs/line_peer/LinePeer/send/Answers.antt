use Rattle.serve_peers.proofs.LineCalls.{gone}
use Rattle.serve_peers.proofs.line_peer.LinePeer.send.Goals as goal

pub returns-then-not-wants_write-clause-sends : goal.returns-then-not-wants_write-clause-sends
returns-then-not-wants_write-clause-sends g c = gone _ _ _ _ _ c.in-Ok.ensures.went c.in-Ok.ensures.input c.in-Ok.ensures.received c.in-Ok.ensures.ended c.in-Ok.ensures.side

pub returns-else-not-wants_write-clause-sends : goal.returns-else-not-wants_write-clause-sends
returns-else-not-wants_write-clause-sends g c = gone _ _ _ _ _ c.in-Ok.ensures.went c.in-Ok.ensures.input c.in-Ok.ensures.received c.in-Ok.ensures.ended c.in-Ok.ensures.side
