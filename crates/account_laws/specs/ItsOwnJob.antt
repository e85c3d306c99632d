-- An exchange changes its own job alone (all this project's own).
use Rattle.std.specs.Prelude.{◌≡◌, ◌⊎◌, ℕ, ◌+◌, ◌==◌, Bool, false, if◌then◌else◌, [], ◌∷◌, ◌++◌, Option, IsSomeAnd, true}
use Rattle.std.specs.FinMap.{get}
use Rattle.account_asks.specs.Asks.{PlainAsk}
use Rattle.account_asks.specs.declared.operation.Operation.{Operation}
use Rattle.account_asks.specs.declared.operation.Operation.TheVariants.{ValidateJob, GetJobAttributes, GetJobs, GetPrinterAttributes}
use Rattle.account_machine.specs.Events.{PlainEvent, OfAccount}
use Rattle.account_machine.specs.declared.event.Reply.{Reply}
use Rattle.account_laws.specs.AccountsTold.{AccountTold, account_told}
use Rattle.account_laws.specs.Deeds.{Deed, Made, Brought, Canceled, HeldBack, Freed, Released, Started, Settled, deed_of}
use Rattle.account_laws.specs.JobsMade.{is_making, jobs_made}
use Rattle.account_lives.specs.Lives.{Exchange, IsLife, Life, OfLives}
use Rattle.account_laws.specs.Told.{is_documents, is_ok, is_successful, request_of}
use Rattle.account_rules.specs.Devices.{Devices}
use Rattle.account_state.specs.Rooms.{RoomValue}

-- the job that a deed is on; a new one has the number after all that were made
abbrev pub is_on : (number made : ℕ) → Deed → Bool
is_on number made (Made ask) = number == made + 1
is_on number made (Brought ask) = number == ask.job
is_on number made (Canceled job) = number == job
is_on number made (HeldBack job) = number == job
is_on number made (Freed job) = number == job
is_on number made (Released device job impressions) = number == job
is_on number made (Started device job) = number == job
is_on number made (Settled device job impressions failed) = number == job
is_on number made _ = false

-- every other job is told as before; the next number is one more where a job is made, and else the
-- same
pub record ChangesItsOwn (made : ℕ) (deed : Deed) (before after : AccountTold) : Type 0 where
  pub others : (number : ℕ) → is_on number made deed ≡ false
      → get after.jobs number ≡ get before.jobs number
  pub next : after.next ≡ (if is_making deed then before.next + 1 else before.next)

abbrev pub ItsOwnJobOnly : Type 0
ItsOwnJobOnly = OfLives (λ life.
    (past later : Life) (x : Exchange) → life ≡ past ++ x ∷ later
    → ChangesItsOwn (jobs_made past) (deed_of x) (account_told past)
    (account_told (past ++ x ∷ [])))

-- ---- what does nothing

abbrev pub only_asks : Operation → Bool
only_asks ValidateJob = true
only_asks GetJobAttributes = true
only_asks GetJobs = true
only_asks GetPrinterAttributes = true
only_asks _ = false

-- a request that only asks what there is, or whether a job would be taken
abbrev pub OnlyAsks : PlainEvent → Type 0
OnlyAsks (OfAccount account it) =
    IsSomeAnd (request_of account it) (λ (ask : PlainAsk). only_asks ask.operation ≡ true)
OnlyAsks _ = ⊥

-- an answer that does not tell that something was done
pub record TellsNoDeed (said : Reply) : Type 0 where
  pub no_success : is_successful said ≡ false
  pub not_ok : is_ok said ≡ false
  pub no_documents : is_documents said ≡ false

-- Nothing changes of what was told; and without this exchange each other one of the life would have
-- been answered the same, and the same would be left.
pub record DoesNothing (past later : Life) (x : Exchange) (room : Option RoomValue)
    (devices : Devices) : Type 0 where
  pub same : account_told (past ++ x ∷ []) ≡ account_told past
  pub without : IsLife (past ++ later) room devices

-- that is what a request does that only asks, and whatever is refused
abbrev pub ReadsAndRefusalsDoNothing : Type 0
ReadsAndRefusalsDoNothing =
    (life past later : Life) (x : Exchange) (room : Option RoomValue) (devices : Devices)
    → IsLife life room devices → life ≡ past ++ x ∷ later
    → OnlyAsks x.0.1 ⊎ TellsNoDeed x.1
    → DoesNothing past later x room devices
