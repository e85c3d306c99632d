-- The jobs of an account in their two orders, and which of them Get-Jobs lists (RFC 8011 section
-- 4.2.6.1).
use Rattle.std.specs.Prelude.{◌≡◌, ◌⊎◌, ℕ, ◌<◌, ◌==◌, Bool, ◌&&◌, ◌||◌, not, nat_lt, if◌then◌else◌, List, [], ◌∷◌, filter, fold, take, Option, Some, None, unwrap_or}
use Rattle.std.specs.FinMap.{entries}
use Rattle.std.specs.List.{AllByRecursion}
use Rattle.std.specs.List.Sorted.{IsPermutation}
use Rattle.account_asks.specs.declared.ask.Which.{Which}
use Rattle.account_asks.specs.declared.ask.Which.TheVariants.{NotCompleted, Completed}
use Rattle.account_laws.specs.AccountsTold.{AccountTold}
use Rattle.account_laws.specs.JobsTold.{JobTold, is_over}
use Rattle.account_laws.specs.StagesTold.{ended_told}

-- a job under its number
abbrev pub Numbered : Type 0
Numbered = ℕ × JobTold

-- ---- those that have not ended, and those that have, by rising number

abbrev pub unfinished_jobs : AccountTold → List Numbered
unfinished_jobs told =
    filter (λ (job : Numbered). not (is_over job.1.stage)) (entries told.jobs)

abbrev pub ended_jobs : AccountTold → List Numbered
ended_jobs told = filter (λ (job : Numbered). is_over job.1.stage) (entries told.jobs)

-- ---- by their end

-- when a job ended
abbrev pub end_of : Numbered → ℕ
end_of job = unwrap_or (ended_told job.1.stage) 0

-- it ended later than the other, or then and has the higher number
abbrev pub ends_later : (job other : Numbered) → Bool
ends_later job other =
    nat_lt (end_of other) (end_of job) || (end_of job == end_of other && nat_lt other.0 job.0)

-- a job among others: before the first that it ended later than
abbrev pub put_by_end : List Numbered → Numbered → List Numbered
put_by_end [] job = job ∷ []
put_by_end (other ∷ others) job =
    if ends_later job other then job ∷ other ∷ others else other ∷ put_by_end others job

-- those that have ended, the latest first
abbrev pub latest_first : AccountTold → List Numbered
latest_first told = fold put_by_end [] (ended_jobs told)

-- ---- those that are listed

-- by which-jobs: those that have not ended, or those that have
abbrev pub chosen : Which → AccountTold → List Numbered
chosen NotCompleted told = unfinished_jobs told
chosen Completed told = latest_first told

-- as many as the limit allows
abbrev pub at_most : Option ℕ → List Numbered → List Numbered
at_most None jobs = jobs
at_most (Some limit) jobs = take limit jobs

abbrev pub jobs_listed : (which : Which) (limit : Option ℕ) → AccountTold → List Numbered
jobs_listed which limit told = at_most limit (chosen which told)

-- ---- what follows: the order

-- each has a lower number than all after it
abbrev pub NumbersRise : List Numbered → Type 0
NumbersRise [] = Unit {0}
NumbersRise (job ∷ jobs) =
    AllByRecursion (λ (later : Numbered). job.0 < later.0) jobs × NumbersRise jobs

abbrev pub EndsLater : (job other : Numbered) → Type 0
EndsLater job other =
    (end_of other < end_of job) ⊎ ((end_of job ≡ end_of other) × (other.0 < job.0))

-- each ended later than all after it
abbrev pub EndsFall : List Numbered → Type 0
EndsFall [] = Unit {0}
EndsFall (job ∷ jobs) = AllByRecursion (EndsLater job) jobs × EndsFall jobs

-- those that have ended are all there, each once
pub record AreInOrder (told : AccountTold) : Type 0 where
  pub unfinished : NumbersRise (chosen NotCompleted told)
  pub all_ended : IsPermutation (ended_jobs told) (chosen Completed told)
  pub by_end : EndsFall (chosen Completed told)

abbrev pub JobsAreInOrder : Type 0
JobsAreInOrder = (told : AccountTold) → AreInOrder told
