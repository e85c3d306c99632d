-- The account of the quota, by what was done in a life (all this project's own).
use Rattle.std.specs.Prelude.{◌≡◌, ℕ, ◌+◌, ◌*◌, ◌-◌, ◌≤◌, pos, ◌≤ℤ◌, Bool, true, false, ◌&&◌, ◌==◌, nat_le, if◌then◌else◌, List, [], ◌∷◌, ◌++◌, Option, Some, None, IsSomeAnd}
use Rattle.std.specs.FinMap.{get}
use Rattle.std.specs.List.{sum_by}
use Rattle.std.specs.Option.{option_map_or}
use Rattle.account_laws.specs.AccountsTold.{AccountTold, account_told, after_exchange, charged_told, granted_told, left_told, nothing_told, rate_told, reserved_told}
use Rattle.account_laws.specs.Deeds.{Deed, Canceled, Freed, Granted, HeldBack, Released, Settled, deed_of, moment_of}
use Rattle.account_laws.specs.JobsTold.{JobTold, Stage, IsFree, need_told, units_reserved}
use Rattle.account_lives.specs.Lives.{Exchange, Life, OfLives}
use Rattle.account_laws.specs.StationAnswers.{charge_of, is_waiting, need_at}

-- ---- what each deed comes to

-- a grant comes to its pages, for whatever month
abbrev pub pages_by : Deed → ℕ
pages_by (Granted month pages) = pages
pages_by _ = 0

-- and to those of its month alone where that is no later than the given one
abbrev pub pages_by_month : (month : ℕ) → Deed → ℕ
pages_by_month month (Granted from pages) = if nat_le from month then pages else 0
pages_by_month month _ = 0

-- a settlement charges what the device counted, at the rate of the release
abbrev pub charge_by : (told : AccountTold) → Deed → ℕ
charge_by told (Settled device number count failed) =
    option_map_or (λ (job : JobTold). charge_of count job.stage) (get told.jobs number) 0
charge_by told _ = 0

-- what a release reserves: at a station what its job needs there, by a request what one that waits
-- needs at rate 1
abbrev pub reserve_by : (told : AccountTold) → Deed → ℕ
reserve_by told (Released device number handed_in) =
    option_map_or (need_at told device handed_in) (get told.jobs number) 0
reserve_by told (Freed number) =
    option_map_or
    (λ (job : JobTold). if is_waiting job.stage then need_told job.impressions 1 job else 0)
    (get told.jobs number)
    0
reserve_by told _ = 0

-- what a hold or a cancel gives back: of a job that is released and not begun all that it had
-- reserved
abbrev pub units_taken_back : Stage → ℕ
units_taken_back (IsFree device rate units) = units
units_taken_back _ = 0

abbrev pub taken_back_of : (told : AccountTold) (number : ℕ) → ℕ
taken_back_of told number =
    option_map_or (λ (job : JobTold). units_taken_back job.stage) (get told.jobs number) 0

-- and a settlement, of the job that it ends
abbrev pub given_back_by : (told : AccountTold) → Deed → ℕ
given_back_by told (HeldBack number) = taken_back_of told number
given_back_by told (Canceled number) = taken_back_of told number
given_back_by told (Settled device number count failed) =
    option_map_or units_reserved (get told.jobs number) 0
given_back_by told _ = 0

-- what the job had reserved that a settlement charges for
abbrev pub reserved_for : (told : AccountTold) → Deed → ℕ
reserved_for told (Settled device number count failed) =
    option_map_or units_reserved (get told.jobs number) 0
reserved_for told _ = 0

-- what it charges beyond that: its device counted more than the release had reserved
abbrev pub overrun_by : (told : AccountTold) → Deed → ℕ
overrun_by told deed = charge_by told deed - reserved_for told deed

-- ---- in all

-- over a life, each deed by what was told before it
abbrev pub sum_from :
    (count : (told : AccountTold) → Deed → ℕ) (told : AccountTold) → Life → ℕ
sum_from count told [] = 0
sum_from count told (x ∷ life) =
    count told (deed_of x) + sum_from count (after_exchange told x) life

abbrev pub granted_in : Life → ℕ
granted_in life = sum_by (λ (x : Exchange). pages_by (deed_of x)) life

abbrev pub granted_up_to : (month : ℕ) → Life → ℕ
granted_up_to month life = sum_by (λ (x : Exchange). pages_by_month month (deed_of x)) life

abbrev pub charges_in : Life → ℕ
charges_in life = sum_from charge_by nothing_told life

abbrev pub overruns_in : Life → ℕ
overruns_in life = sum_from overrun_by nothing_told life

abbrev pub reserves_in : Life → ℕ
reserves_in life = sum_from reserve_by nothing_told life

abbrev pub given_back_in : Life → ℕ
given_back_in life = sum_from given_back_by nothing_told life

-- ---- the balance

-- Up to each month the account was granted what the grants up to it granted; it was charged what
-- its settlements charged; what its releases reserved is reserved still or was given back; and what
-- is reserved and what was charged come to no more than all that was granted and the overruns.
pub record IsBalanced (life : Life) : Type 0 where
  pub granted : (month : ℕ) → granted_told (account_told life) month ≡ granted_up_to month life
  pub charged : charged_told (account_told life) ≡ charges_in life
  pub reserved : reserved_told (account_told life) + given_back_in life ≡ reserves_in life
  pub within : reserved_told (account_told life) + charged_told (account_told life)
      ≤ granted_in life + overruns_in life

abbrev pub AccountsBalance : Type 0
AccountsBalance = OfLives IsBalanced

-- ---- a release takes no more than is left

-- the job waits to be released
abbrev pub waits_in : (told : AccountTold) (number : ℕ) → Bool
waits_in told number =
    option_map_or (λ (job : JobTold). is_waiting job.stage) (get told.jobs number) false

-- A station releases a job that waits; a request does where the job waits, and else it leaves what
-- was released as it is.
abbrev pub releases_now : (told : AccountTold) → Deed → Bool
releases_now told (Released device number handed_in) = true
releases_now told (Freed number) = waits_in told number
releases_now told _ = false

-- nothing is owed after a release
abbrev pub ReleasesOweNothing : Type 0
ReleasesOweNothing = OfLives (λ life.
    (past later : Life) (x : Exchange) → life ≡ past ++ x ∷ later
    → releases_now (account_told past) (deed_of x) ≡ true
    → pos 0 ≤ℤ left_told (account_told (past ++ x ∷ [])) (moment_of x))

-- ---- a settlement charges at the rate of the release

-- the rate that a deed fixes for the job as it releases it: a station that of its device, a
-- request 1
abbrev pub rate_by : (number : ℕ) (told : AccountTold) → Deed → Option ℕ
rate_by number told (Released device job handed_in) =
    if number == job then Some (rate_told told device) else None
rate_by number told (Freed job) =
    if number == job && waits_in told number then Some 1 else None
rate_by number told _ = None

abbrev pub or_else : {A : Type 0} → Option A → Option A → Option A
or_else None other = other
or_else (Some x) other = Some x

-- the last that was fixed in a life that goes on from what was told
abbrev pub rate_from : (number : ℕ) (told : AccountTold) → Life → Option ℕ
rate_from number told [] = None
rate_from number told (x ∷ life) =
    or_else (rate_from number (after_exchange told x) life) (rate_by number told (deed_of x))

abbrev pub rate_fixed : (number : ℕ) → Life → Option ℕ
rate_fixed number life = rate_from number nothing_told life

-- what the device counted times the rate is charged, and what the job had reserved is given back
pub record IsSettledAt (rate count number : ℕ) (before after : AccountTold) : Type 0 where
  pub charged : charged_told after ≡ charged_told before + count * rate
  pub given_back : reserved_told after + option_map_or units_reserved (get before.jobs number) 0
      ≡ reserved_told before

abbrev pub SettlementsCharge : Type 0
SettlementsCharge = OfLives (λ life.
    (past later : Life) (x : Exchange) (device : List ℕ) (number count : ℕ) (failed : Bool)
    → life ≡ past ++ x ∷ later → deed_of x ≡ Settled device number count failed
    → IsSomeAnd (rate_fixed number past) (λ rate.
    IsSettledAt rate count number (account_told past) (account_told (past ++ x ∷ []))))
