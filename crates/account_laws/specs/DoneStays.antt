-- What was told as done is done (all this project's own).
use Rattle.std.specs.Prelude.{◌≡◌, ℕ, ◌+◌, ◌==◌, ◌&&◌, Bool, true, false, bytes_eq, List, ◌∷◌, ◌++◌, All, Some}
use Rattle.std.specs.FinMap.{get}
use Rattle.std.specs.List.{list_any}
use Rattle.account_asks.specs.Operations.{is_print_job}
use Rattle.account_laws.specs.AccountsTold.{account_told}
use Rattle.account_laws.specs.Deeds.{Deed, Made, Brought, Canceled, HeldBack, Freed, Released, Started, deed_of}
use Rattle.account_laws.specs.HandedOnce.{hands_out}
use Rattle.account_laws.specs.ItsOwnJob.{is_on}
use Rattle.account_laws.specs.JobsMade.{jobs_made}
use Rattle.account_laws.specs.JobsTold.{JobTold, is_over}
use Rattle.account_lives.specs.Lives.{Exchange, Life, OfLives}

-- Once a cancel is told as done, the job's documents are handed out no more. (A device that prints
-- the job then has them already; it is not handed them again, as HandedAgain says.)
abbrev pub CanceledIsNotHandedOut : Type 0
CanceledIsNotHandedOut = OfLives (λ life.
    (past later : Life) (cancel : Exchange) (number : ℕ)
    → life ≡ past ++ cancel ∷ later → deed_of cancel ≡ Canceled number
    → All (λ (x : Exchange). hands_out number (deed_of x) ≡ false) later)

-- a release of the job, for the device or for any
abbrev pub frees : (device : List ℕ) (number : ℕ) → Deed → Bool
frees device number (Released at job impressions) = (number == job) && bytes_eq at device
frees device number (Freed job) = number == job
frees device number _ = false

-- once a hold is told as done, the job is not handed out until a release
abbrev pub HeldWaitsForRelease : Type 0
HeldWaitsForRelease = OfLives (λ life.
    (past between later : Life) (hold start : Exchange) (device : List ℕ) (number : ℕ)
    → life ≡ past ++ hold ∷ (between ++ start ∷ later)
    → deed_of hold ≡ HeldBack number → deed_of start ≡ Started device number
    → list_any (λ (x : Exchange). frees device number (deed_of x)) between ≡ true)

-- a Print-Job makes a job that is closed, and the last Send-Document closes it
abbrev pub closes : (number made : ℕ) → Deed → Bool
closes number made (Made ask) = (number == made + 1) && is_print_job ask.operation
closes number made (Brought ask) = (number == ask.job) && ask.last
closes number made _ = false

abbrev pub brings : (number : ℕ) → Deed → Bool
brings number (Brought ask) = number == ask.job
brings number _ = false

-- once a job is closed, no Send-Document for it is done any more
abbrev pub ClosedTakesNoMore : Type 0
ClosedTakesNoMore = OfLives (λ life.
    (past later : Life) (close : Exchange) (number : ℕ)
    → life ≡ past ++ close ∷ later → closes number (jobs_made past) (deed_of close) ≡ true
    → All (λ (x : Exchange). brings number (deed_of x) ≡ false) later)

-- Once a job has ended, it stays as it was told, and nothing that is done is on it.
pub record StaysEnded (number : ℕ) (job : JobTold) (past later : Life) : Type 0 where
  pub same : get (account_told (past ++ later)).jobs number ≡ Some job
  pub untouched : (before after : Life) (x : Exchange) → later ≡ before ++ x ∷ after
      → is_on number (jobs_made (past ++ before)) (deed_of x) ≡ false

abbrev pub EndedStays : Type 0
EndedStays = OfLives (λ life.
    (past later : Life) (number : ℕ) (job : JobTold) → life ≡ past ++ later
    → get (account_told past).jobs number ≡ Some job → is_over job.stage ≡ true
    → StaysEnded number job past later)
