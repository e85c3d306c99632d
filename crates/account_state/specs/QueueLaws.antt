-- The law of src/laws.rt: what the queue of the completed jobs is, however it is computed.
use Rattle.std.specs.Prelude.{◌≡◌, List}
use Rattle.account_rules.specs.declared.job.Job.{Job}
use Rattle.account_state.specs.Queues.{completed, IsCompletedQueue}
use Rattle.account_state.specs.RoomRules.{NumbersRise}

-- of jobs by rising number there is one such queue, and it is the one that is computed
pub record CompletedIsTheQueue : Type 0 where
  pub is_one : (jobs : List Job) → NumbersRise jobs → IsCompletedQueue jobs (completed jobs)
  pub is_the_only : (jobs queue : List Job) → NumbersRise jobs →
      IsCompletedQueue jobs queue → queue ≡ completed jobs
