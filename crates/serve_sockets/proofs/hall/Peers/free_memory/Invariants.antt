use Rattle.std.proofs.Common.{[]}
use Rattle.serve_sockets.specs.Halls.{ServesEach}
use Rattle.serve_sockets.proofs.hall.Peers.free_memory.Given as goal

abbrev pub invariant-loop-key : goal.invariant-loop-key
invariant-loop-key g l = ServesEach g.S.Store [] l.fn.self.guests l.self.guests l.fn.served l.served
