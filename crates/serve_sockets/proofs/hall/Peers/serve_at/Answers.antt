use Rattle.std.proofs.Common.{Option, IsSome, ap, refl, subst, sym, ◌∙◌}
use Rattle.slab.proofs.SlabLemmas.{Updates-with_value}
use Rattle.slab.specs.Slab.{get}
use Rattle.serve_peers.specs.Journals.{moment_of}
use Rattle.serve_peers.specs.Space.{spare_of}
use Rattle.serve_peers.specs.declared.served.Served.{Served}
use Rattle.serve_sockets.proofs.HallSteps.{had_turn, let_go}
use Rattle.serve_sockets.specs.Halls.{ServesAt, StaysAfter}
use Rattle.serve_sockets.specs.declared.clock.Reading.{Reading}
use Rattle.serve_sockets.specs.declared.guest.Guest.{Guest}
use Rattle.serve_sockets.proofs.hall.Peers.serve_at.Goals as goal

pub returns-in_default-clause-serves : goal.returns-in_default-clause-serves
returns-in_default-clause-serves g c =
    subst (λ (told : Option Reading). ServesAt g.S.Store (get c.args.self.now.guests c.args.key) told (get c.close.new.self.guests c.args.key) c.args.served.now c.args.served.now) (sym c.in_default.is)
    (let_go g.S.Store (get c.args.self.now.guests c.args.key) (get c.close.new.self.guests c.args.key) c.args.served.now c.close.ensures.gone)

pub returns-clause-serves : goal.returns-clause-serves
returns-clause-serves g c =
    let written = Updates-with_value c.args.self.now.guests c.args.key c.take_turn-next.new.self (subst (λ (slot : Option Guest). IsSome slot) c.in-Some-get_mut.ensures.value refl) in
    subst (λ (told : Option Reading). ServesAt g.S.Store (get c.args.self.now.guests c.args.key) told (get c.after_turn.new.self.guests c.args.key) c.args.served.now c.take_turn-next.new.served) (sym c.in-Some.is)
    (had_turn g.S.Store _ c.in-Some.field-0 _ c.in-Some-get_mut.guest.now _ _ (sym c.in-Some-get_mut.ensures.value) (record {
      begun = c.mend_space.new.self;
      moment = (c.in-Some.field-0.moment, c.mend_space.ensures.same ∙ ap (λ (served : Served g.row.S.Denot). record served { spare = spare_of c.mend_space.new.self }) c.set_moment.ensures);
      turn = record { ticks = c.in-Some.field-0.ticks; has_memory = c.has_memory.result; is_last = c.args.is_last; reads = c.may_read.result };
      next = c.take_turn-next.result;
      left = c.take_turn-next.new.self;
      driven = c.take_turn-next.ensures;
      stays = subst (λ (slot : Option Guest). StaysAfter c.take_turn-next.result slot (get c.after_turn.new.self.guests c.args.key)) written.changed c.after_turn.ensures.stays;
    }) (ap (λ (served : Served g.row.S.Denot). moment_of served) c.mend_space.ensures.same ∙ ap (λ (served : Served g.row.S.Denot). moment_of served) c.set_moment.ensures) refl)
