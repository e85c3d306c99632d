use Rattle.std.proofs.Common.{◌≡◌, ◌≤◌, IsTrue, refl, sym, ap, subst, ◌∙◌}
use Rattle.std.specs.FinMap.{values}
use Rattle.account_rules.specs.Limits.{most_unfinished, most_units}
use Rattle.account_state.specs.declared.tally.Tally.{Tally}
use Rattle.account_state.specs.RoomRules.{IsRoom}
use Rattle.account_state.specs.Tallies.{tally_of, is_in_bounds}
use Rattle.room_core.proofs.JobLists.{jobs_seen}
use Rattle.account_state.proofs.Bounds.{reserved_bound, charged_bound}
use Rattle.account_state.proofs.TallyLemmas.{room_in_bounds}
use Rattle.room_core.proofs.room.Room.tally.Goals as goal

counted : (c : goal.After-tally_of) → c.tally_of.result ≡ tally_of (values c.args.self.now.jobs)
counted c = c.tally_of.ensures ∙ ap tally_of (jobs_seen _ _ c.self.inside.jobs _ c.self.view_is refl c.as_slice.ensures c.self.invariant.0)

pub tally_of-requires : goal.tally_of-requires
tally_of-requires c =
    subst (λ jobs. IsTrue (is_in_bounds (tally_of jobs))) (sym (jobs_seen _ _ c.self.inside.jobs _ c.self.view_is refl c.as_slice.ensures c.self.invariant.0))
    (room_in_bounds c.args.self.now (subst IsRoom c.self.view_is c.self.invariant.3))

pub returns-clause-unfinished : goal.returns-clause-unfinished
returns-clause-unfinished c = ap (λ (tally : Tally). tally.unfinished) (counted c)

pub returns-clause-processing : goal.returns-clause-processing
returns-clause-processing c = ap (λ (tally : Tally). tally.is_processing) (counted c)

pub returns-clause-reserved : goal.returns-clause-reserved
returns-clause-reserved c = ap (λ (tally : Tally). tally.reserved) (counted c)

pub returns-clause-charged : goal.returns-clause-charged
returns-clause-charged c = ap (λ (tally : Tally). tally.charged) (counted c)

pub returns-clause-few : goal.returns-clause-few
returns-clause-few c =
    subst (λ (tally : Tally). tally.unfinished ≤ most_unfinished) (sym (counted c)) (subst IsRoom c.self.view_is c.self.invariant.3).few_unfinished

pub returns-clause-bounds : goal.returns-clause-bounds
returns-clause-bounds c =
    let rules : IsRoom c.args.self.now = subst IsRoom c.self.view_is c.self.invariant.3 in
    subst (λ (tally : Tally). (tally.reserved ≤ most_units) × (tally.charged ≤ most_units)) (sym (counted c)) (reserved_bound c.args.self.now rules, charged_bound c.args.self.now rules)
