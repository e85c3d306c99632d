-- When a room takes a change and keeps its rules (all this project's own).
use Rattle.std.specs.Prelude.{◌≡◌, ℕ, ◌+◌, ◌<◌, ◌≤◌, true, false, length, Option, Some, None, IsSome, IfSome}
use Rattle.std.specs.FinMap.{get}
use Rattle.account_rules.specs.JobStates.{is_unfinished}
use Rattle.account_rules.specs.declared.job.Job.{Job}
use Rattle.account_rules.specs.declared.job.Document.{Document}
use Rattle.account_rules.specs.declared.job.Standing.{Standing}
use Rattle.account_rules.specs.Limits.{last_next_job, most_unfinished, longest_job_name, longest_password}
use Rattle.account_rules.specs.Standings.{IsStanding}
use Rattle.account_state.specs.Rooms.{RoomValue}
use Rattle.account_state.specs.RoomRules.{IsDocumentAt, IsGrant, unfinished_count}

-- a job's documents go on from those that it had before: none, or the next
abbrev pub GoesOn : (job before after : ℕ) (document : Option Document) → Type 0
GoesOn job before after None = after ≡ before
GoesOn job before after (Some document) =
    (after ≡ before + 1) × IsDocumentAt (job, before + 1) document

-- a new job with the next number, with its first document or with none
pub record CanAddJob (room : RoomValue) (job : Job) (document : Option Document) : Type 0 where
  pub a_number_is_left : room.next < last_next_job
  pub few_are_unfinished : unfinished_count room < most_unfinished
  pub numbered : job.job ≡ room.next
  pub name_fits : length job.name ≤ longest_job_name
  pub password_fits : length job.password ≤ longest_password
  pub in_range : IsStanding job.standing
  pub stays_unfinished : is_unfinished job.standing.state ≡ true
  pub documents : GoesOn room.next 0 job.standing.documents document

-- an unfinished job that stays unfinished, with its next document or with none
pub record CanRestand (room : RoomValue) (number : ℕ) (standing : Standing)
    (document : Option Document) : Type 0 where
  pub is_there : IsSome (get room.jobs number)
  pub was_unfinished : IfSome (get room.jobs number)
      (λ job. is_unfinished job.standing.state ≡ true)
  pub in_range : IsStanding standing
  pub stays_unfinished : is_unfinished standing.state ≡ true
  pub documents : IfSome (get room.jobs number)
      (λ job. GoesOn number job.standing.documents standing.documents document)

-- a job that has ended from now on
pub record CanFinish (room : RoomValue) (number : ℕ) (standing : Standing) : Type 0 where
  pub is_there : IsSome (get room.jobs number)
  pub in_range : IsStanding standing
  pub has_ended : is_unfinished standing.state ≡ false

-- a month that nothing was granted for
pub record CanAddGrant (room : RoomValue) (month pages : ℕ) : Type 0 where
  pub is_new : get room.grants month ≡ None
  pub in_range : IsGrant month pages
