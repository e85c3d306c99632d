-- Rule: The job that an event names, and what an act makes of it, or the first refusal.
use Rattle.std.specs.Prelude.{ℕ, Option, Some, None, Result, Ok, Err}
use Rattle.std.specs.FinMap.{get}
use Rattle.account_machine.specs.Steps.{and_then}
use Rattle.account_rules.specs.Acts.{Act}
use Rattle.account_rules.specs.declared.job.Job.{Job}
use Rattle.account_rules.specs.declared.job.Standing.{Standing}
use Rattle.account_rules.specs.declared.refusal.Refusal.{Refusal}
use Rattle.account_rules.specs.declared.refusal.Word.TheVariants.{NoJob}
use Rattle.account_rules.specs.Moves.{move}
use Rattle.account_state.specs.Rooms.{RoomValue}

-- client-error-not-found (RFC 8011 section B.1.4.7) where the account has no such job
abbrev pub job_or_refusal : (found : Option Job) → Result Job Refusal
job_or_refusal None = Err (record { status = 0x0406; word = NoJob })
job_or_refusal (Some job) = Ok job

abbrev pub job_in : (room : RoomValue) (number : ℕ) → Result Job Refusal
job_in room number = job_or_refusal (get room.jobs number)

-- the table of states decides
abbrev pub act_on : (room : RoomValue) (number : ℕ) (act : Job → Act) → Result Standing Refusal
act_on room number act = and_then (job_in room number) (λ (job : Job). move (act job) job.standing)
