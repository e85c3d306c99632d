use Rattle.std.proofs.Common.{inl, refl}
use Rattle.serve_sockets.proofs.HallSteps.{enter_then}
use Rattle.serve_sockets.proofs.hall.Peers.admit_all.Goals as goal

pub loop-place-init : goal.loop-place-init
loop-place-init c = λ key. inl refl

pub loop-place-preserved : goal.loop-place-preserved
loop-place-preserved c = enter_then c.args.doors.now c.args.self.now.guests c.loop-place.self.guests c.admit.new.self.guests c.loop-place.invariant c.admit.ensures
