use Rattle.serve_peers.specs.LinePeers.{TakesLines, lines_of}
use Rattle.serve_peers.specs.Lines.{output_of}
use Rattle.serve_peers.specs.Turns.{Continues}
use Rattle.serve_peers.proofs.line_peer.LinePeer.drive.Given as goal

abbrev pub invariant-loop : goal.invariant-loop
invariant-loop g l = record {
  takes : TakesLines g.S.Store (g.R.Read.remaining l.fn.reader, g.W.Write.contents l.fn.writer) (g.R.Read.remaining l.reader, g.W.Write.contents l.writer) (lines_of l.fn.self) (lines_of l.self) (output_of (lines_of l.self)) l.fn.served l.served;
  continues : Continues g.S.Store l.fn.served l.served;
}
