use Rattle.std.proofs.Common.{inl, refl, sym, ◌∙◌}
use Rattle.serve_peers.proofs.GatheringSteps.{got}
use Rattle.serve_sockets.proofs.HallSteps.{enter_then}
use Rattle.serve_sockets.proofs.hall.Peers.admit.Goals as goal

pub loop-init : goal.loop-init
loop-init c = λ key. inl refl

pub loop-preserved : goal.loop-preserved
loop-preserved c =
    let at = sym (c.copied.ensures ∙ got c.get.result c.args.doors.now c.args.place c.get.ensures.lookup.1 c.get.ensures.lookup.3) ∙ c.in-Some.is in
    enter_then c.args.doors.now c.args.self.now.guests c.loop.self.guests c.take_in.new.self.guests c.loop.invariant (rw c.next_at.ensures at (c.take_in.ensures c.args.doors.now at))
