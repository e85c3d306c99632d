-- A document is kept while its job goes on, and no longer (this project's own).
use Rattle.std.specs.Prelude.{◌≡◌, ℕ, ◌≤◌, false, length, Some, IsSomeAnd}
use Rattle.std.specs.FinMap.{get}
use Rattle.account_laws.specs.AccountsTold.{account_told}
use Rattle.account_laws.specs.JobsTold.{JobTold, is_over}
use Rattle.account_lives.specs.Lives.{IsLife, Life}
use Rattle.account_rules.specs.Devices.{Devices}
use Rattle.account_rules.specs.declared.job.Document.{Document}
use Rattle.account_state.specs.Rooms.{RoomValue}

-- the job has not ended, and so many documents or more were sent for it
pub record IsKeptFor (document : ℕ) (job : JobTold) : Type 0 where
  pub goes_on : is_over job.stage ≡ false
  pub from_one : 1 ≤ document
  pub was_sent : document ≤ length job.documents

-- Whatever document a life leaves, it is one that was sent for a job that was told of and has not
-- ended, at its place, and has the numbers of both.
abbrev pub DocumentsGoWithTheirJobs : Type 0
DocumentsGoWithTheirJobs =
    (life : Life) (room : RoomValue) (devices : Devices) → IsLife life (Some room) devices
    → (number place : ℕ) (document : Document) → get room.documents (number, place) ≡ Some document
    → (document.job ≡ number) × (document.number ≡ place)
    × IsSomeAnd (get (account_told life).jobs number) (IsKeptFor place)
