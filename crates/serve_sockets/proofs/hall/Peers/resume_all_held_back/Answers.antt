use Rattle.std.proofs.Common.{inl, refl}
use Rattle.serve_sockets.proofs.HallSteps.{leave_then}
use Rattle.serve_sockets.proofs.hall.Peers.resume_all_held_back.Goals as goal

pub loop-key-init : goal.loop-key-init
loop-key-init c = λ key. inl refl

pub loop-key-preserved : goal.loop-key-preserved
loop-key-preserved c = leave_then c.args.self.now.guests c.loop-key.self.guests c.resume_if_held_back.new.self.guests c.loop-key.invariant c.resume_if_held_back.ensures
