use Rattle.std.proofs.Common.{◌∷◌, ◌++◌, [], ap, ◌∙◌}
use Rattle.serve_sockets.proofs.guest.Guest.go_on.Goals as goal

pub returns : goal.returns
returns g c = record {
  begun = c.ask_again.new.self.peer;
  mid = c.ask_again.new.served;
  again = c.ask_again.ensures.again;
  takes = c.drive-next.ensures.takes;
  asked = c.ask_again.ensures.asked;
  rests = c.drive-next.ensures.rests;
  holds = c.drive-next.ensures.holds;
  turns = c.and-self.ensures ∙ ap (λ turns. turns ++ (c.args.turn, c.drive-next.result) ∷ []) c.ask_again.ensures.turns;
  socket = c.ask_again.ensures.socket;
  door = c.ask_again.ensures.door;
}
