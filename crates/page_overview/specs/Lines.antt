-- Rule: What the print room's page tells of one account, and of its jobs that have not ended (all
-- this project's own).
use Rattle.std.specs.Prelude.{ℕ, pos, if◌then◌else◌, length, List, Option, None, Some, filter_map}
use Rattle.page_pages.specs.Phases.{phase_of}
use Rattle.page_pages.specs.declared.accounts.AccountLine.{AccountLine}
use Rattle.page_pages.specs.declared.begun.BegunLine.{BegunLine}
use Rattle.page_pages.specs.declared.longest.LongestLine.{LongestLine}
use Rattle.account_rules.specs.JobStates.{is_processing}
use Rattle.account_rules.specs.Quota.{left_of}
use Rattle.account_rules.specs.declared.job.Job.{Job}
use Rattle.page_overview.specs.declared.survey.Survey.{Survey}

-- what is left, and how many of its jobs have not ended
abbrev pub account_line : (account : List ℕ) → Survey → AccountLine
account_line account survey = record {
  account = account;
  left = left_of
      (pos survey.granted)
      (pos survey.summary.reserved)
      (pos survey.summary.charged);
  waiting = length survey.unfinished;
}

abbrev pub begun_at : (account : List ℕ) (job : ℕ) (device : Option (List ℕ)) (started : Option ℕ)
    → Option BegunLine
begun_at account job None started = None
begun_at account job (Some device) None = None
begun_at account job (Some device) (Some started) =
    Some (record { account = account; job = job; device = device; started = started })

-- of a job that a device began, and has not settled
abbrev pub begun_line : (account : List ℕ) → Job → Option BegunLine
begun_line account job =
    if is_processing job.standing.state
    then begun_at account job.job job.standing.device job.standing.started
    else None

-- of a job that waits: it is held, or pending
abbrev pub longest_line : (account : List ℕ) → Job → Option LongestLine
longest_line account job =
    if is_processing job.standing.state
    then None
    else Some (record {
      account = account;
      job = job.job;
      phase = phase_of job;
      created = job.standing.created;
    })

abbrev pub begun_lines : (account : List ℕ) → List Job → List BegunLine
begun_lines account jobs = filter_map (begun_line account) jobs

abbrev pub longest_lines : (account : List ℕ) → List Job → List LongestLine
longest_lines account jobs = filter_map (longest_line account) jobs
