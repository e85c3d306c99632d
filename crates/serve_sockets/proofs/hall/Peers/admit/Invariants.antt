use Rattle.serve_sockets.specs.Halls.{OnlyEnter}
use Rattle.serve_sockets.proofs.hall.Peers.admit.Given as goal

abbrev pub invariant-loop : goal.invariant-loop
invariant-loop l = OnlyEnter l.doors l.fn.self.guests l.self.guests
