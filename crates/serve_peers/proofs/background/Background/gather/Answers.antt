use Rattle.std.proofs.Common.{Option, ap, subst, sym, ◌∙◌}
use Rattle.serve_peers.proofs.GatheringKept.{taken_first}
use Rattle.serve_peers.specs.Overviews.{GathersBy}
use Rattle.serve_peers.specs.declared.gathering.Gathering.{Gathering}
use Rattle.serve_peers.proofs.background.Background.gather.Goals as goal

pub returns-in-Some : goal.returns-in-Some
returns-in-Some g c =
    let old = c.args.self.now in
    let new = c.go_on.new.self in
    let on = taken_first g.S.Store c.in-Some.gathering old _ new c.args.rounds.now c.go_on.new.rounds c.args.journal.now c.go_on.new.journal (ap (λ (it : Option Gathering). record old { gathered = record old.gathered { under_way = it } }) c.take.ensures.after) c.go_on.ensures in
    subst (λ (it : Option Gathering). GathersBy g.S.Store it old new c.args.rounds.now c.go_on.new.rounds c.args.journal.now c.go_on.new.journal) (sym (sym c.take.ensures.value ∙ c.in-Some.is)) on
