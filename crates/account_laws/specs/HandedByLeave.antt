-- A job's documents are handed out to a device only by leave (all this project's own).
use Rattle.std.specs.Prelude.{◌≡◌, ◌⊎◌, ℕ, ◌==◌, Bool, true, false, List, [], ◌∷◌, ◌++◌, All, Some, IsSomeAnd}
use Rattle.std.specs.FinMap.{get}
use Rattle.account_asks.specs.Asks.{PlainAsk}
use Rattle.account_machine.specs.Events.{PlainEvent, OfAccount, Release}
use Rattle.account_laws.specs.AccountsTold.{account_told}
use Rattle.account_laws.specs.Deeds.{Deed, Canceled, HeldBack, Freed, Released, Started, deed_of}
use Rattle.account_laws.specs.JobsMade.{IsMadeBy}
use Rattle.account_laws.specs.JobsTold.{JobTold, Waits}
use Rattle.account_lives.specs.Lives.{Exchange, Life, OfLives}

-- the password that a release at a station gives; no other event gives one
abbrev pub given_in : PlainEvent → List ℕ
given_in (OfAccount account (Release device number password impressions)) = password
given_in _ = []

-- A release at a station gives leave for its device, where it gives the password that the job has,
-- if it has one; one over IPP gives leave for every device, where the job has none.
abbrev pub GivesLeave :
    (device : List ℕ) (number : ℕ) (password given : List ℕ) → Deed → Type 0
GivesLeave device number password given (Released at job impressions) =
    (at ≡ device) × (job ≡ number) × ((password ≡ []) ⊎ (given ≡ password))
GivesLeave device number password given (Freed job) = (job ≡ number) × (password ≡ [])
GivesLeave device number password given _ = ⊥

-- a hold and a cancel take it back
abbrev pub takes_back : (number : ℕ) → Deed → Bool
takes_back number (HeldBack job) = number == job
takes_back number (Canceled job) = number == job
takes_back number _ = false

-- by what was told, the job waits to be released
abbrev pub HasWaiting : (number : ℕ) (life : Life) → Type 0
HasWaiting number life =
    IsSomeAnd (get (account_told life).jobs number) (λ (job : JobTold). job.stage ≡ Waits)

-- A request made the job; then, while the job waited, a release gave leave for the device, by the
-- password of that request; and that was not taken back since.
pub record HasLeave (device : List ℕ) (number : ℕ) (life : Life) : Type 0 where
  pub before : Life
  pub release : Exchange
  pub since : Life
  pub are_these : life ≡ before ++ release ∷ since
  pub maker : PlainAsk
  pub made : IsMadeBy number maker before
  pub waited : HasWaiting number before
  pub gives : GivesLeave device number maker.password (given_in release.0.1) (deed_of release)
  pub stays : All (λ (x : Exchange). takes_back number (deed_of x) ≡ false) since

-- by what was told, the device is on
abbrev pub IsOnIn : (device : List ℕ) (life : Life) → Type 0
IsOnIn device life = get (account_told life).on device ≡ Some true

-- wherever documents are handed out, there is leave for it and the device is on
abbrev pub HandedByLeave : Type 0
HandedByLeave = OfLives (λ life.
    (past later : Life) (x : Exchange) (device : List ℕ) (number : ℕ)
    → life ≡ past ++ x ∷ later → deed_of x ≡ Started device number
    → HasLeave device number past × IsOnIn device past)
