use Rattle.serve_sockets.proofs.HallSteps.{leave_then, nobody_leaves, one_leaves}
use Rattle.serve_sockets.proofs.hall.Peers.resume.Goals as goal

pub returns-then-not-rearm : goal.returns-then-not-rearm
returns-then-not-rearm c =
    leave_then c.args.self.now.guests c.rearm.new.self.guests c.close.new.self.guests (nobody_leaves c.args.self.now.guests c.rearm.new.self.guests c.rearm.ensures) (one_leaves c.args.key c.rearm.new.self.guests c.close.new.self.guests c.close.ensures.gone c.close.ensures.others)

pub returns-else-not-rearm : goal.returns-else-not-rearm
returns-else-not-rearm c = nobody_leaves c.args.self.now.guests c.rearm.new.self.guests c.rearm.ensures
