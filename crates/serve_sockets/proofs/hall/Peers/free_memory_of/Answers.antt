use Rattle.std.proofs.Common.{refl}
use Rattle.serve_sockets.proofs.HallSteps.{nothing, serves_and_drops}
use Rattle.serve_sockets.proofs.hall.Peers.free_memory_of.Goals as goal

pub returns-then-not-has_large_answer : goal.returns-then-not-has_large_answer
returns-then-not-has_large_answer g c = nothing g.S.Store c.args.self.now.guests c.args.self.now.guests c.args.served.now (λ key. refl)

pub returns : goal.returns
returns g c = serves_and_drops g.S.Store c.args.key c.args.self.now.guests c.serve.new.self.guests c.drop_slow.new.self.guests c.args.served.now c.serve.new.served c.serve.ensures.serves c.serve.ensures.others c.drop_slow.ensures.may_go c.drop_slow.ensures.others
