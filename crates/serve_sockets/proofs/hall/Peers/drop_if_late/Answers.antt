use Rattle.serve_sockets.proofs.HallSteps.{one_leaves}
use Rattle.serve_sockets.proofs.hall.Peers.drop_if_late.Goals as goal

pub returns-then-has_to_go : goal.returns-then-has_to_go
returns-then-has_to_go c = one_leaves c.args.key c.args.self.now.guests c.close.new.self.guests c.close.ensures.gone c.close.ensures.others
