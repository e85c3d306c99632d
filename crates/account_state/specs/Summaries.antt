-- What an account's jobs come to, and what of it in one month (all this project's own).
use Rattle.std.specs.Prelude.{ℕ, ◌-◌, ◌==◌, Bool, true, false, if◌then◌else◌, List, count_by, Option, Some, None}
use Rattle.std.specs.List.{sum_by}
use Rattle.account_state.specs.declared.summary.Summary.{Summary}
use Rattle.account_rules.specs.JobStates.{is_processing}
use Rattle.account_rules.specs.Months.{month_at}
use Rattle.account_rules.specs.Quota.{need_of}
use Rattle.account_rules.specs.declared.job.Job.{Job}
use Rattle.account_rules.specs.declared.job.JobState.{JobState}
use Rattle.account_rules.specs.declared.job.JobState.TheVariants.{Held, Pending, Processing, Canceled, Aborted, Completed}

abbrev pub is_held : JobState → Bool
is_held Held = true
is_held Pending = false
is_held Processing = false
is_held Canceled = false
is_held Aborted = false
is_held Completed = false

abbrev pub is_pending : JobState → Bool
is_pending Held = false
is_pending Pending = true
is_pending Processing = false
is_pending Canceled = false
is_pending Aborted = false
is_pending Completed = false

-- an end, if there was one, was in the month
abbrev pub is_in_month : (month : ℕ) (ended : Option ℕ) → Bool
is_in_month month None = false
is_in_month month (Some at) = month_at at == month

-- the units that a job was charged count in the month in which it ended
abbrev pub charged_then : (month : ℕ) (ended : Option ℕ) (charged : ℕ) → ℕ
charged_then month ended charged = if is_in_month month ended then charged else 0

-- the units that a job was charged beyond what its release let it cost
abbrev pub beyond : (charged impressions copies rate : ℕ) → ℕ
beyond charged impressions copies rate = charged - need_of impressions copies rate

-- they count in the month in which it ended
abbrev pub beyond_then : (month : ℕ) → Job → ℕ
beyond_then month job = let s = job.standing in
    charged_then month s.ended (beyond s.charged s.impressions s.copies s.rate)

abbrev pub summary_of : (month : ℕ) (jobs : List Job) → Summary
summary_of month jobs = record {
  reserved = sum_by (λ job. job.standing.reserved) jobs;
  charged = sum_by (λ job. job.standing.charged) jobs;
  charged_then = sum_by (λ job. charged_then month job.standing.ended job.standing.charged) jobs;
  beyond_then = sum_by (beyond_then month) jobs;
  held = count_by (λ job. is_held job.standing.state) jobs;
  pending = count_by (λ job. is_pending job.standing.state) jobs;
  processing = count_by (λ job. is_processing job.standing.state) jobs;
  ended_then = count_by (λ job. is_in_month month job.standing.ended) jobs;
}
