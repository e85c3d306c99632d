-- Rule: Get-Jobs (RFC 8011 section 4.2.6): which jobs, and in what order.
use Rattle.std.specs.Prelude.{ℕ, List, [], ◌∷◌, Option, Some, None, codes}
use Rattle.std.specs.FinMap.{values}
use Rattle.account_replies.specs.Responses.{job_groups}
use Rattle.account_asks.specs.Asks.{PlainAsk}
use Rattle.account_asks.specs.declared.ask.Which.{Which}
use Rattle.account_asks.specs.declared.ask.Which.TheVariants.{NotCompleted, Completed}
use Rattle.account_machine.specs.Requests.{Response, doing_ask, asked_at}
use Rattle.account_rules.specs.declared.job.Job.{Job}
use Rattle.account_state.specs.Queues.{not_completed, completed, first_jobs}
use Rattle.account_state.specs.Rooms.{RoomValue}

-- which-jobs (RFC 8011 section 4.2.6.1)
abbrev pub chosen : (which : Which) (jobs : List Job) → List Job
chosen NotCompleted jobs = not_completed jobs
chosen Completed jobs = completed jobs

abbrev pub asked_jobs : (ask : PlainAsk) (jobs : List Job) → List Job
asked_jobs ask jobs = first_jobs ask.limit (chosen ask.which jobs)

-- without names job-uri and job-id are shown
abbrev pub listed_names : (wanted : Option (List (List ℕ))) → Option (List (List ℕ))
listed_names None = Some (codes "job-uri" ∷ codes "job-id" ∷ [])
listed_names (Some names) = Some names

abbrev pub listed : (room : RoomValue) (account : List ℕ) (now : ℕ) (ask : PlainAsk) → Response
listed room account now ask =
    let at = asked_at room.opened account now ask in
    let jobs = asked_jobs ask (values room.jobs) in
    doing_ask room ask (job_groups at jobs (listed_names ask.wanted))
