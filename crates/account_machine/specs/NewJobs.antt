-- Rule: Print-Job and Create-Job, and Validate-Job, which makes no job (RFC 8011 sections 4.2.1,
-- 4.2.4 and 4.2.3).
use Rattle.std.specs.Prelude.{ℕ, if◌then◌else◌, List, [], ◌∷◌, Option, Some, None, Result, codes}
use Rattle.account_replies.specs.Queues.{accepting_refusal}
use Rattle.account_asks.specs.Asks.{PlainAsk}
use Rattle.account_asks.specs.Operations.{is_print_job}
use Rattle.account_machine.specs.Requests.{Response, refusing_ask_or, doing_ask, done_with, asked_at}
use Rattle.account_rules.specs.declared.job.Document.{Document}
use Rattle.account_rules.specs.declared.job.Job.{Job}
use Rattle.account_rules.specs.declared.refusal.Refusal.{Refusal}
use Rattle.account_rules.specs.NewJobs.{fresh}
use Rattle.account_state.specs.Changes.{with_new_job}
use Rattle.account_state.specs.RoomRules.{unfinished_count}
use Rattle.account_state.specs.Rooms.{RoomValue}
use Rattle.account_replies.specs.JobAttributes.{job_group}

-- the job under its number
abbrev pub new_job : (number : ℕ) (ask : PlainAsk) (now : ℕ) → Job
new_job number ask now = record {
  job = number;
  name = ask.name;
  password = ask.password;
  standing = fresh (is_print_job ask.operation) ask.copies ask.impressions now;
}

-- a Print-Job brings its one document, also an empty one
abbrev pub new_document : (number : ℕ) (ask : PlainAsk) → Option Document
new_document number ask =
    if is_print_job ask.operation
    then Some (record { job = number; number = 1; format = ask.format; bytes = ask.payload })
    else None

-- what is told of a job that was made (RFC 8011 section 4.2.1.2)
abbrev pub made_names : Option (List (List ℕ))
made_names =
    Some (codes "job-uri" ∷ codes "job-id" ∷ codes "job-state" ∷ codes "job-state-reasons" ∷ [])

-- whether the account takes a job now
abbrev pub accepts : (room : RoomValue) → Result (Unit {0}) Refusal
accepts room = accepting_refusal (unfinished_count room) room.next

-- the job has the account's next number
abbrev pub made : (room : RoomValue) (account : List ℕ) (now : ℕ) (ask : PlainAsk) → Response
made room account now ask =
    refusing_ask_or room ask (accepts room) (λ _.
    let job = new_job room.next ask now in
    done_with (with_new_job room job (new_document room.next ask)) ask room.next
    (job_group (asked_at room.opened account now ask) job made_names ∷ []))

abbrev pub validated : (room : RoomValue) (ask : PlainAsk) → Response
validated room ask = refusing_ask_or room ask (accepts room) (λ _. doing_ask room ask [])
