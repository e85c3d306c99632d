use Rattle.serve_sockets.proofs.HallSteps.{inserted, is_new}
use Rattle.serve_sockets.proofs.hall.Peers.take_in.Goals as goal

pub returns-in-Some : goal.returns-in-Some
returns-in-Some c = λ doors at. inserted doors _ _ _ _ (is_new doors _ _ _ _ _ at c.peer-peer.ensures c.new-guest.ensures.peer c.new-guest.ensures.turns c.new-guest.ensures.asked c.new-guest.ensures.door c.register.ensures) c.insert.ensures.was_vacant c.insert.ensures.updates c.insert.ensures.err

pub returns-in_default : goal.returns-in_default
returns-in_default c = λ doors at. inserted doors _ _ _ _ (is_new doors _ _ _ _ _ at c.peer-peer.ensures c.new-guest.ensures.peer c.new-guest.ensures.turns c.new-guest.ensures.asked c.new-guest.ensures.door c.register.ensures) c.insert.ensures.was_vacant c.insert.ensures.updates c.insert.ensures.err

pub returns-else-is_ok : goal.returns-else-is_ok
returns-else-is_ok c = λ doors at. inserted doors _ _ _ _ (is_new doors _ _ _ _ _ at c.peer-peer.ensures c.new-guest.ensures.peer c.new-guest.ensures.turns c.new-guest.ensures.asked c.new-guest.ensures.door c.register.ensures) c.insert.ensures.was_vacant c.insert.ensures.updates c.insert.ensures.err
