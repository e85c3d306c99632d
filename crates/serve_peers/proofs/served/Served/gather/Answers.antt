use Rattle.std.proofs.Common.{Bool, refl, subst, sym}
use Rattle.serve_peers.proofs.BackupKept.{nothing}
use Rattle.serve_peers.proofs.GatheringKept.{gathered}
use Rattle.serve_peers.specs.Overviews.{GathersOutside}
use Rattle.serve_peers.proofs.served.Served.gather.Goals as goal

pub returns-then-self-clause-nothing : goal.returns-then-self-clause-nothing
returns-then-self-clause-nothing g c = nothing g.S.Store c.args.self.now

pub returns-clause-gathers : goal.returns-clause-gathers
returns-clause-gathers g c =
    let old = c.args.self.now in
    let new = record old { rounds = c.gather.new.rounds; journal = c.gather.new.journal; background = c.gather.new.self } in
    subst (λ (b : Bool). GathersOutside g.S.Store b old new) (sym c.if-self.false) (c.gather.ensures, refl)

pub returns-clause-nothing : goal.returns-clause-nothing
returns-clause-nothing g c =
    let old = c.args.self.now in
    let new = record old { rounds = c.gather.new.rounds; journal = c.gather.new.journal; background = c.gather.new.self } in
    gathered g.S.Store old new c.if-self.false refl old.background.gathered.under_way c.gather.ensures
