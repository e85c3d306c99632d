use Rattle.std.proofs.Common.{ℕ, List, [], ◌∷◌, map, refl, subst, sym}
use Rattle.std.proofs.lemmas.Iterator.{YieldsList-from_slice}
use Rattle.std.proofs.lemmas.Iterator.Consumers.{YieldsList-end}
use Rattle.mio.specs.Events.{items}
use Rattle.mio.specs.declared.event.event.Event.{Event}
use Rattle.serve_sockets.proofs.HallSteps.{nothing, told_then, told_with_one}
use Rattle.serve_sockets.specs.Halls.{ServesEach, keys_told}
use Rattle.serve_sockets.proofs.hall.Peers.serve_all.Goals as goal

pub loop-event-init : goal.loop-event-init
loop-event-init g c = nothing g.S.Store c.args.self.now.guests c.args.self.now.guests c.args.served.now (λ key. refl)

pub loop-event-preserved : goal.loop-event-preserved
loop-event-preserved g c =
    let old = c.args.self.now.guests in
    let new = c.serve_event.new.self.guests in
    let before = keys_told (map (λ event. event.now) c.loop-event.yielded) in
    let one = keys_told (c.in-Some.event.now ∷ []) in
    let both = told_then g.S.Store before one old c.loop-event.self.guests new c.args.served.now c.loop-event.served c.serve_event.new.served c.loop-event.invariant c.serve_event.ensures in
    subst (λ (keys : List ℕ). ServesEach g.S.Store keys old new c.args.served.now c.serve_event.new.served) (sym (told_with_one (λ event. event.now) c.loop-event.yielded c.in-Some.event)) both

pub returns : goal.returns
returns g c =
    let all = YieldsList-end (YieldsList-from_slice (items c.args.events.now) c.into_iter-event-iterator.ensures.into_iter_gives.0) c.loop-event.yielded _ c.loop-event.yielded_by _ _ c.in-None.is c.next.ensures.steps in
    subst (λ (events : List Event). ServesEach g.S.Store (keys_told events) c.args.self.now.guests c.loop-event.self.guests c.args.served.now c.loop-event.served) all.0 c.loop-event.invariant
