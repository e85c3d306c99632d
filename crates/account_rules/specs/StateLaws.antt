-- The laws on the table of states that src/laws.rt proves, in the words of a print room (this
-- project's own).
use Rattle.std.specs.Prelude.{◌≡◌, ◌⊎◌, ◌↔◌, ℕ, ◌*◌, ◌≤◌, ℤ, pos, ◌≤ℤ◌, Bool, true, false, if◌then◌else◌, List, [], Option, Some, None, IfSome, IsSome, Result, Ok, Err, IsErr}
use Rattle.account_rules.specs.declared.job.JobState.{JobState}
use Rattle.account_rules.specs.declared.job.JobState.TheVariants.{Held, Pending, Processing}
use Rattle.account_rules.specs.declared.job.Standing.{Standing}
use Rattle.account_rules.specs.Acts.{Act, ReleaseJob, StationRelease, StationStart, StationSettle}
use Rattle.account_rules.specs.declared.refusal.Refusal.{Refusal}
use Rattle.account_rules.specs.declared.refusal.Word.TheVariants.{Quota}
use Rattle.account_rules.specs.Effects.{refused}
use Rattle.account_rules.specs.JobStates.{has_ended, is_released}
use Rattle.account_rules.specs.Limits.{most_impressions, most_rate, most_need}
use Rattle.account_rules.specs.Moves.{move}
use Rattle.account_rules.specs.Quota.{exceeds}
use Rattle.account_rules.specs.Standings.{IsStanding}

-- a job that has ended never changes again
abbrev pub EndedJobsStay : Type 0
EndedJobsStay = (act : Act) (s : Standing) → has_ended s.state ≡ true → IsErr (move act s)

-- what a job is charged once it was moved so: settling alone charges, the device's count times the
-- rate of the job
abbrev pub charged_after : Act → Standing → ℕ
charged_after (StationSettle device completed failed now) s = completed * s.rate
charged_after _ s = s.charged

abbrev pub OnlySettlingCharges : Type 0
OnlySettlingCharges =
    (act : Act) (s next : Standing) → move act s ≡ Ok next → next.charged ≡ charged_after act s

-- the rate of a released job is the one that its release fixed, unless the job is held again
abbrev pub ReleasesFixRates : Type 0
ReleasesFixRates = (act : Act) (s next : Standing) → move act s ≡ Ok next
    → is_released s.state ≡ true → (next.rate ≡ s.rate) ⊎ (next.state ≡ Held)

-- what an act is told to be left of the quota, if it is told
abbrev pub left_told : Act → Option ℤ
left_told (ReleaseJob has_password left) = Some left
left_told (StationRelease kept device given impressions rate left) = Some left
left_told _ = None

-- a release reserves impressions times copies times rate, and never more than is left
pub record Reserves (act : Act) (released : Standing) : Type 0 where
  pub needed : released.reserved ≡ released.impressions * released.copies * released.rate
  pub is_told : IsSome (left_told act)
  pub within_left : IfSome (left_told act) (λ left. pos released.reserved ≤ℤ left)

abbrev pub ReleasesReserve : Type 0
ReleasesReserve = (act : Act) (s next : Standing) → move act s ≡ Ok next → s.state ≡ Held
    → next.state ≡ Pending → Reserves act next

-- a release that succeeds where so much is left succeeds, and alike, exactly where what it reserves
-- is at most what is left
abbrev pub GoesByWhatIsLeft : (release : ℤ → Act) → Type 0
GoesByWhatIsLeft release = (s next : Standing) (enough left : ℤ) → s.state ≡ Held
    → move (release enough) s ≡ Ok next
    → (move (release left) s ≡ Ok next) ↔ (pos next.reserved ≤ℤ left)

pub record ReleasesGoByWhatIsLeft : Type 0 where
  pub of_the_owner : (has_password : Bool) → GoesByWhatIsLeft (ReleaseJob has_password)
  pub at_a_station : (kept device given : List ℕ) (impressions rate : ℕ)
      → GoesByWhatIsLeft (StationRelease kept device given impressions rate)

-- what is reserved is given back whole when the job is held, canceled or settled, and stays until
-- then
abbrev pub ReservationsAreGivenBack : Type 0
ReservationsAreGivenBack = (act : Act) (s next : Standing) → IsStanding s → move act s ≡ Ok next
    → is_released next.state ≡ false → next.reserved ≡ 0

abbrev pub ReservationsStay : Type 0
ReservationsStay = (act : Act) (s next : Standing) → move act s ≡ Ok next
    → is_released s.state ≡ true → is_released next.state ≡ true → next.reserved ≡ s.reserved

-- what opens a job with a password: at a station, exactly its password
abbrev pub MeetsPassword : Act → Type 0
MeetsPassword (ReleaseJob has_password left) = has_password ≡ false
MeetsPassword (StationRelease kept device given impressions rate left) =
    (kept ≡ []) ⊎ (given ≡ kept)
MeetsPassword _ = ⊥

-- a job with a password becomes pending at a station alone, by exactly its password; nothing but a
-- release makes a job pending
abbrev pub PasswordsAreAsked : Type 0
PasswordsAreAsked = (act : Act) (s next : Standing) → move act s ≡ Ok next → next.state ≡ Pending
    → (next ≡ s) ⊎ MeetsPassword act

abbrev pub IsStart : Act → Type 0
IsStart (StationStart device rate now) = Unit {0}
IsStart _ = ⊥

-- nothing but a start makes a job processing
abbrev pub OnlyStartsProcess : Type 0
OnlyStartsProcess = (act : Act) (s next : Standing) → move act s ≡ Ok next
    → next.state ≡ Processing → (s.state ≡ Processing) ⊎ IsStart act

-- a job as it was released, where what that reserves is left
abbrev pub within_quota : (released : Standing) (left : ℤ) → Result Standing Refusal
within_quota released left =
    if exceeds released.reserved left then refused (Quota released.reserved left) else Ok released

-- what a release comes to that was decided without the quota: a refusal stays, so does that of a
-- job released before, and any other is refused where it would reserve more than what is left
abbrev pub kept_to_quota : (before : JobState) (left : ℤ) (asked : Result Standing Refusal)
    → Result Standing Refusal
kept_to_quota before left (Err refusal) = Err refusal
kept_to_quota before left (Ok next) = if is_released before then Ok next else within_quota next left

-- so many units refuse no release
abbrev pub RefusesNothing : ℤ → Type 0
RefusesNothing enough = pos most_need ≤ℤ enough

-- the quota is the last that a release is refused for
pub record QuotaComesLast : Type 0 where
  pub of_the_owner : (s : Standing) (has_password : Bool) (left enough : ℤ)
      → IsStanding s → RefusesNothing enough
      → move (ReleaseJob has_password left) s
      ≡ kept_to_quota s.state left (move (ReleaseJob has_password enough) s)
  pub at_a_station : (s : Standing) (kept device given : List ℕ) (impressions rate : ℕ)
      (left enough : ℤ)
      → IsStanding s → impressions ≤ most_impressions → rate ≤ most_rate → RefusesNothing enough
      → move (StationRelease kept device given impressions rate left) s
      ≡ kept_to_quota s.state left
      (move (StationRelease kept device given impressions rate enough) s)
