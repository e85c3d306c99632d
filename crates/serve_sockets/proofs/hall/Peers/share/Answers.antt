use Rattle.mio.specs.Events.{items}
use Rattle.serve_sockets.proofs.HallSteps.{none_shared, shared}
use Rattle.serve_sockets.specs.Halls.{keys_told}
use Rattle.serve_sockets.proofs.hall.Peers.share.Goals as goal

pub returns-then-count-lt2 : goal.returns-then-count-lt2
returns-then-count-lt2 g c = none_shared g.S.Store (keys_told (items c.args.events.now)) c.args.self.now.guests c.args.served.now c.settle.new.self c.settle.ensures.alone c.settle.ensures.settles

pub returns : goal.returns
returns g c = shared g.S.Store (keys_told (items c.args.events.now)) c.args.self.now.guests c.ask_all.new.self.guests c.args.served.now c.begin.new.self c.ask_all.new.served c.settle-2.new.self c.begin.ensures.under_way c.begin.ensures.begins c.ask_all.ensures c.settle-2.ensures.alone c.settle-2.ensures.settles
