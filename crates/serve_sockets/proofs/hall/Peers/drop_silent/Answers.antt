use Rattle.std.proofs.Common.{inl, refl}
use Rattle.serve_sockets.proofs.HallSteps.{leave_then}
use Rattle.serve_sockets.proofs.hall.Peers.drop_silent.Goals as goal

pub loop-key-init : goal.loop-key-init
loop-key-init c = λ key. inl refl

pub loop-key-preserved : goal.loop-key-preserved
loop-key-preserved c = leave_then c.args.self.now.guests c.loop-key.self.guests c.drop_if_silent.new.self.guests c.loop-key.invariant c.drop_if_silent.ensures
