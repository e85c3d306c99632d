use Rattle.std.proofs.Common.{[], refl}
use Rattle.serve_sockets.proofs.HallSteps.{nothing, told_then}
use Rattle.serve_sockets.proofs.hall.Peers.free_memory.Goals as goal

pub returns-then-not-is_over : goal.returns-then-not-is_over
returns-then-not-is_over g c = nothing g.S.Store c.args.self.now.guests c.args.self.now.guests c.args.served.now (λ key. refl)

pub loop-key-init : goal.loop-key-init
loop-key-init g c = nothing g.S.Store c.args.self.now.guests c.args.self.now.guests c.args.served.now (λ key. refl)

pub loop-key-preserved : goal.loop-key-preserved
loop-key-preserved g c = told_then g.S.Store [] [] c.args.self.now.guests c.loop-key.self.guests c.free_memory_of.new.self.guests c.args.served.now c.loop-key.served c.free_memory_of.new.served c.loop-key.invariant c.free_memory_of.ensures
