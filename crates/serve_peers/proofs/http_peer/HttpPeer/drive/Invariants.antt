use Rattle.http_server.specs.Connection.{history}
use Rattle.serve_peers.specs.HttpPeers.{CallsService, GoesOn, KeepsLimits, connection_of}
use Rattle.serve_peers.specs.Turns.{Continues}
use Rattle.serve_peers.proofs.http_peer.HttpPeer.drive.Given as goal

abbrev pub invariant-loop : goal.invariant-loop
invariant-loop g l = record {
  calls : CallsService g.V.Service.answers l.fn.self l.self l.fn.service l.service;
  later : GoesOn (g.R.Read.remaining l.fn.reader, g.W.Write.contents l.fn.writer) (g.R.Read.remaining l.reader, g.W.Write.contents l.writer) (history (connection_of l.fn.self)) (history (connection_of l.self));
  continues : Continues g.V.Kept.Store (g.V.RoomService.rooms l.fn.service) (g.V.RoomService.rooms l.service);
  limits : KeepsLimits l.fn.self l.self;
}
