-- For the proof of the code alone: how the queue of the completed jobs is computed. By QueueLaws it
-- is the one list that IsCompletedQueue describes.
use Rattle.std.specs.Prelude.{Bool, ◌&&◌, ◌||◌, ◌==◌, not, nat_lt, if◌then◌else◌, List, [], ◌∷◌, filter, fold, unwrap_or}
use Rattle.account_rules.specs.JobStates.{is_unfinished}
use Rattle.account_rules.specs.declared.job.Job.{Job}

-- a job has ended later than another, or then and is the later made
abbrev pub is_later : (job other : Job) → Bool
is_later job other =
    nat_lt (unwrap_or other.standing.ended 0) (unwrap_or job.standing.ended 0)
    || (unwrap_or job.standing.ended 0 == unwrap_or other.standing.ended 0
    && nat_lt other.job job.job)

-- the job among others, before the first that it is later than
abbrev pub put_by_end : List Job → Job → List Job
put_by_end [] job = job ∷ []
put_by_end (other ∷ others) job =
    if is_later job other then job ∷ other ∷ others else other ∷ put_by_end others job

-- those that have ended, each put in its place
abbrev pub completed : List Job → List Job
completed jobs =
    fold put_by_end [] (filter (λ (job : Job). not (is_unfinished job.standing.state)) jobs)
