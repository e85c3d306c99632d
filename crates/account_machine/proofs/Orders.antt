-- The jobs of a room can be shown.
use Rattle.std.proofs.Common.{◌≡◌, ℕ, ◌*◌, arith, ◌≤◌, List, [], ◌∷◌}
use Rattle.std.specs.List.{AllByRecursion}
use Rattle.account_rules.specs.declared.job.Job.{Job}
use Rattle.account_rules.specs.declared.job.JobState.{JobState}
use Rattle.account_rules.specs.declared.job.JobState.TheVariants.{Held, Pending, Processing, Canceled, Aborted, Completed}
use Rattle.account_rules.specs.declared.job.Standing.{Standing}
use Rattle.account_rules.specs.Limits.{last_next_job}
use Rattle.account_rules.specs.Standings.{IsStanding, KeepsToState}
use Rattle.account_replies.specs.Limits.{IsShowable}
use Rattle.account_state.specs.RoomRules.{IsJobAt}

charged_at_most : (s : Standing) → IsStanding s → s.charged ≤ 2147483647 * s.rate
charged_at_most s h = by_state s.state h.by_state
  where
    none : s.charged ≡ 0 → s.charged ≤ 2147483647 * s.rate
    none is = rw is (omega arith)

    by_state : (state : JobState) → KeepsToState state s → s.charged ≤ 2147483647 * s.rate
    by_state Held k = none k.unfinished.charges_nothing
    by_state Pending k = none k.released.unfinished.charges_nothing
    by_state Processing k = none k.released.unfinished.charges_nothing
    by_state Canceled k = k.charges_at_most
    by_state Aborted k = k.charges_at_most
    by_state Completed k = k.charges_at_most

showable : (next : ℕ) (job : Job) → next ≤ last_next_job → IsJobAt next job.job job → IsShowable job
showable next job few at = record {
  number = at.from_one;
  numbered = omega (arith, few, at.below_next);
  name = at.name_fits;
  copies = at.standing.ranges.copies_at_most;
  impressions = at.standing.ranges.impressions_at_most;
  rate = at.standing.ranges.rate_from_one;
  charged = charged_at_most job.standing at.standing;
  documents = at.standing.ranges.documents_at_most;
  created = at.standing.ranges.created_in_range;
  started = at.standing.ranges.started_in_range;
  ended = at.standing.ranges.ended_in_range;
}

-- the jobs of a room can be shown
pub all_showable : (next : ℕ) (jobs : List Job) → next ≤ last_next_job → AllByRecursion (λ job. IsJobAt next job.job job) jobs → AllByRecursion IsShowable jobs
all_showable next [] few all = tt
all_showable next (job ∷ jobs) few all = (showable next job few all.0, all_showable next jobs few all.1)
