use Rattle.serve_sockets.proofs.HallSteps.{one_leaves}
use Rattle.serve_sockets.proofs.hall.Peers.drop_if_silent.Goals as goal

pub returns-then-has_to_make_room : goal.returns-then-has_to_make_room
returns-then-has_to_make_room c = one_leaves c.args.key c.args.self.now.guests c.close.new.self.guests c.close.ensures.gone c.close.ensures.others
