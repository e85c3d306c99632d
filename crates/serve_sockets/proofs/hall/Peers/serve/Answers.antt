use Rattle.std.proofs.Common.{ap, subst, ◌∙◌}
use Rattle.slab.specs.Slab.{Slab, get}
use Rattle.serve_sockets.specs.Halls.{ServesAt}
use Rattle.serve_sockets.specs.declared.guest.Guest.{Guest}
use Rattle.serve_sockets.proofs.hall.Peers.serve.Goals as goal

pub returns-clause-serves : goal.returns-clause-serves
returns-clause-serves g c = (
  c.read_clocks-told.result,
  subst (λ (guests : Slab Guest). ServesAt g.S.Store (get guests c.args.key) c.read_clocks-told.result (get c.serve_at.new.self.guests c.args.key) c.args.served.now c.serve_at.new.served)
      c.read_clocks-told.ensures c.serve_at.ensures.serves,
)

pub returns-clause-others : goal.returns-clause-others
returns-clause-others g c = λ other differs. c.serve_at.ensures.others other differs ∙ ap (λ (guests : Slab Guest). get guests other) c.read_clocks-told.ensures
