use Rattle.std.proofs.Common.{ap, refl, subst, ◌∙◌}
use Rattle.serve_peers.specs.declared.served.Served.{Served}
use Rattle.serve_sockets.specs.Guests.{TakesTurn, in_round}
use Rattle.serve_sockets.proofs.guest.Guest.ask.Goals as goal

pub returns : goal.returns
returns g c = record {
  left = c.drive-next.new.served;
  takes = subst (λ (served : Served _). TakesTurn g.S.Store in_round in_round c.drive-next.result c.args.self.now.peer c.drive-next.new.self served c.drive-next.new.served) (c.set_asked.ensures ∙ ap (λ asked. record c.args.served.now { asked = asked }) c.take.ensures.value) c.drive-next.ensures.takes;
  asked = c.take_asked.ensures.asked;
  same = c.take_asked.ensures.same;
  holds = c.drive-next.ensures.holds;
  turns = c.and-self.ensures;
  socket = refl;
  door = refl;
}
