use Rattle.serve_peers.specs.LastPeers.{SaysLast}
use Rattle.serve_peers.proofs.last_peer.LastPeer.drive.Given as goal

abbrev pub invariant-loop : goal.invariant-loop
invariant-loop g l = SaysLast (g.R.Read.remaining l.fn.reader, g.W.Write.contents l.fn.writer) (g.R.Read.remaining l.reader, g.W.Write.contents l.writer) l.fn.self l.self
