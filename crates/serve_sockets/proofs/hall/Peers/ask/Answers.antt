use Rattle.std.proofs.Common.{[], ◌∷◌, ap, sym, ◌∙◌}
use Rattle.mio.specs.declared.token.Token.{Token}
use Rattle.serve_sockets.proofs.HallSteps.{key_named, nobody_asks, one_asks}
use Rattle.serve_sockets.specs.Halls.{keys_told}
use Rattle.serve_sockets.proofs.hall.Peers.ask.Goals as goal

pub returns-then-may_share : goal.returns-then-may_share
returns-then-may_share g c =
    let named = key_named c.args.event.now c.token-token.result.0 c.in-Some.key (ap (λ (token : Token). token.0) c.token-token.ensures) c.in-Some.ensures in
    one_asks g.S.Store (keys_told (c.args.event.now ∷ [])) c.in-Some.key c.args.self.now.guests c.serve.new.self.guests c.args.served.now c.serve.new.served named (sym c.is_shared.ensures ∙ c.if-is_shared.true) c.serve.ensures.serves c.serve.ensures.others

pub returns-else-is_shared : goal.returns-else-is_shared
returns-else-is_shared g c = nobody_asks g.S.Store (keys_told (c.args.event.now ∷ [])) c.args.self.now.guests c.args.served.now

pub returns-in_default : goal.returns-in_default
returns-in_default g c = nobody_asks g.S.Store (keys_told (c.args.event.now ∷ [])) c.args.self.now.guests c.args.served.now
