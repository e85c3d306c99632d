use Rattle.std.proofs.Common.{◌≡◌, ℕ, List, Option, slice_get, sym, ap, subst, ◌∙◌}
use Rattle.serve_peers.specs.Gathering.{AddsBy, next_of}
use Rattle.serve_peers.proofs.GatheringSteps.{got}
use Rattle.serve_peers.proofs.gathering.Adding.step.Goals as goal

pub returns-in-Some : goal.returns-in-Some
returns-in-Some g c =
    let read : c.copied.result ≡ next_of c.args.self = c.copied.ensures ∙ got c.get.result c.as_slice.result.now c.args.self.taken c.get.ensures.lookup.1 c.get.ensures.lookup.3 ∙ ap (λ (l : List (List ℕ)). slice_get l c.args.self.taken) c.as_slice.ensures in
    subst (λ (it : Option (List ℕ)). AddsBy g.S.Store it c.args.self c.args.rounds.now c.add.new.rounds c.add.result) (sym c.in-Some.is ∙ read) c.add.ensures

pub returns-in-None : goal.returns-in-None
returns-in-None g c =
    let read : c.copied.result ≡ next_of c.args.self = c.copied.ensures ∙ got c.get.result c.as_slice.result.now c.args.self.taken c.get.ensures.lookup.1 c.get.ensures.lookup.3 ∙ ap (λ (l : List (List ℕ)). slice_get l c.args.self.taken) c.as_slice.ensures in
    subst (λ (it : Option (List ℕ)). AddsBy g.S.Store it c.args.self c.args.rounds.now c.find.new.rounds c.find.result) (sym c.in-None.is ∙ read) c.find.ensures
