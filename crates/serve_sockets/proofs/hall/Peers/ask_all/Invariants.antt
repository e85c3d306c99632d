use Rattle.std.proofs.Common.{map}
use Rattle.serve_sockets.specs.Halls.{OnlyAsk, keys_told}
use Rattle.serve_sockets.proofs.hall.Peers.ask_all.Given as goal

abbrev pub invariant-loop-event : goal.invariant-loop-event
invariant-loop-event g l = OnlyAsk g.S.Store (keys_told (map (λ event. event.now) l.yielded)) l.fn.self.guests l.self.guests l.fn.served l.served
