use Rattle.std.proofs.Common.{[], ◌∷◌, ap}
use Rattle.mio.specs.declared.token.Token.{Token}
use Rattle.serve_sockets.proofs.HallSteps.{door_named, key_named, none_told, nothing, one_told, same_guests}
use Rattle.serve_sockets.specs.Halls.{keys_told}
use Rattle.serve_sockets.proofs.hall.Peers.serve_event.Goals as goal

pub returns-in-Some : goal.returns-in-Some
returns-in-Some g c =
    let named = key_named c.args.event.now c.token-token.result.0 c.in-Some.key (ap (λ (token : Token). token.0) c.token-token.ensures) c.in-Some.ensures in
    one_told g.S.Store (keys_told (c.args.event.now ∷ [])) c.in-Some.key c.args.self.now.guests c.serve.new.self.guests c.free_memory.new.self.guests c.args.served.now c.serve.new.served c.free_memory.new.served named c.serve.ensures.serves c.serve.ensures.others c.free_memory.ensures

pub returns-in-None : goal.returns-in-None
returns-in-None g c =
    let old = c.args.self.now.guests in
    let new = c.note_waiting.new.self.guests in
    let named = door_named c.args.event.now c.token-token.result.0 (ap (λ (token : Token). token.0) c.token-token.ensures) c.in-None.ensures in
    none_told g.S.Store (keys_told (c.args.event.now ∷ [])) old new c.args.served.now c.args.served.now named (nothing g.S.Store old new c.args.served.now (same_guests old new c.note_waiting.ensures))
