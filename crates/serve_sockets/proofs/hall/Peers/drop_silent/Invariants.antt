use Rattle.serve_sockets.specs.Halls.{OnlyLeave}
use Rattle.serve_sockets.proofs.hall.Peers.drop_silent.Given as goal

abbrev pub invariant-loop-key : goal.invariant-loop-key
invariant-loop-key l = OnlyLeave l.fn.self.guests l.self.guests
