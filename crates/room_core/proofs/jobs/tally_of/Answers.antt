use Rattle.std.proofs.Common.{◌≡◌, ◌+◌, take, IsTrue, refl, sym, ap, subst, ◌∙◌}
use Rattle.std.specs.Option.{IsSome}
use Rattle.account_state.specs.declared.tally.Tally.{Tally}
use Rattle.account_state.specs.Tallies.{tally_of, is_in_bounds}
use Rattle.room_core.proofs.Tallies.{counted_with, tally_more, in_bounds_before}
use Rattle.account_state.proofs.TallyLemmas.{counted_some}
use Rattle.room_core.proofs.jobs.tally_of.Goals as goal

-- so far, and with this job
next : (c : goal.After-with) → tally_of (take (c.loop-job.job-index + 1) c.args.jobs.now) ≡ counted_with c.loop-job.tally c.job-item.result.standing
next c = tally_more c.args.jobs.now c.loop-job.job-index c.job-item.result c.loop-job-test.true c.job-item.is
    ∙ ap (λ (tally : Tally). counted_with tally c.job-item.result.standing) (sym c.loop-job.invariant)

pub unwrap-tally-requires : goal.unwrap-tally-requires
unwrap-tally-requires c =
    let standing = c.job-item.result.standing in
    let within : IsTrue (is_in_bounds (counted_with c.loop-job.tally c.job-item.result.standing)) =
    subst (λ (tally : Tally). IsTrue (is_in_bounds tally)) (next c) (in_bounds_before c.args.jobs.now (c.loop-job.job-index + 1) c.requires) in
    subst IsSome (sym (c.with.ensures ∙ counted_some c.loop-job.tally standing.state standing.reserved standing.charged within)) refl
