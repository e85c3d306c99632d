-- Rule: The two orders of Get-Jobs (RFC 8011 section 4.2.6.1), on the jobs of an account by rising
-- number. What `completed` gives is by QueueLaws the one list that IsCompletedQueue describes.
use Rattle.std.specs.Prelude.{◌≡◌, ◌⊎◌, ℕ, ◌<◌, not, List, [], ◌∷◌, filter, take, Option, Some, None, unwrap_or}
use Rattle.std.specs.List.{AllByRecursion}
use Rattle.std.specs.List.Sorted.{IsPermutation}
use Rattle.account_rules.specs.JobStates.{is_unfinished}
use Rattle.account_rules.specs.declared.job.Job.{Job}
pub use Rattle.account_state.specs.ProofQueueFolds.{is_later, put_by_end, completed}

-- those that have not ended, the unfinished ones, in the order that they stand in
abbrev pub not_completed : List Job → List Job
not_completed jobs = filter (λ (job : Job). is_unfinished job.standing.state) jobs

-- those that have ended, in the order that they stand in
abbrev pub ended_jobs : List Job → List Job
ended_jobs jobs = filter (λ (job : Job). not (is_unfinished job.standing.state)) jobs

-- the moment at which a job ended
abbrev pub ended_at : Job → ℕ
ended_at job = unwrap_or job.standing.ended 0

-- a job ended later than another, or at the same moment and has the higher number
abbrev pub EndsLater : (job other : Job) → Type 0
EndsLater job other =
    (ended_at other < ended_at job) ⊎ ((ended_at job ≡ ended_at other) × (other.job < job.job))

-- each ended later than all after it
abbrev pub EndsFall : List Job → Type 0
EndsFall [] = Unit {0}
EndsFall (job ∷ jobs) = AllByRecursion (EndsLater job) jobs × EndsFall jobs

-- the queue of the completed jobs: those that have ended, the latest first
pub record IsCompletedQueue (jobs queue : List Job) : Type 0 where
  pub all_ended : IsPermutation (ended_jobs jobs) queue
  pub latest_first : EndsFall queue

-- the first so many
abbrev pub first_jobs : (most : Option ℕ) (jobs : List Job) → List Job
first_jobs None jobs = jobs
first_jobs (Some limit) jobs = take limit jobs
