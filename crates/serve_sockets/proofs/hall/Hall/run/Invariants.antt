use Rattle.std.proofs.Common.{◌≡◌}
use Rattle.serve_sockets.specs.Halls.{GoesOn, doors_of, guests_of}
use Rattle.serve_sockets.proofs.hall.Hall.run.Given as goal

abbrev pub invariant-loop : goal.invariant-loop
invariant-loop g l = GoesOn g.S.Store (doors_of l.fn.self) (guests_of l.fn.self) (guests_of l.self) l.fn.served l.served × (doors_of l.self ≡ doors_of l.fn.self)
