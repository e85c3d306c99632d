use Rattle.serve_sockets.specs.Halls.{OnlyEnter}
use Rattle.serve_sockets.proofs.hall.Peers.admit_all.Given as goal

abbrev pub invariant-loop-place : goal.invariant-loop-place
invariant-loop-place l = OnlyEnter l.doors l.fn.self.guests l.self.guests
