-- The machine lists the jobs as they were told.
use Rattle.std.proofs.Common.{◌≡◌, ℕ, zero, suc, ◌<◌, nat_lt, Bool, true, false, cond, not, T, List, [], ◌∷◌, ◌++◌, append-nil, map, filter, fold, Option, Some, None, take, inl, inr, refl, sym, ap, subst, ◌∙◌, arith}
use Rattle.std.specs.FinMap.{entries, entries_sorted, get, is_sorted}
use Rattle.std.specs.List.{AllByRecursion, take-map}
use Rattle.std.specs.List.Sorted.{IsPermutation}
use Rattle.std.specs.Ordering.{nat_cmp}
use Rattle.std.proofs.lemmas.Bool.{and_parts, eqb-true, or_cases}
use Rattle.std.proofs.lemmas.Bool.Decides.{nat_tests}
use Rattle.std.proofs.lemmas.List.Sorted.{IsPermutation-append, IsPermutation-cons, IsPermutation-middle, IsPermutation-refl, IsPermutation-sym, IsPermutation-trans}
use Rattle.account_asks.specs.declared.ask.Which.{Which}
use Rattle.account_asks.specs.declared.ask.Which.TheVariants as whiches
use Rattle.account_laws.proofs.AsToldSums.{ends_at}
use Rattle.account_laws.proofs.MappedValues.{filter_changed}
use Rattle.account_laws.proofs.ShownJobs.{fold_shown, job_shown, jobs_told}
use Rattle.account_laws.specs.AccountsTold.{AccountTold}
use Rattle.account_laws.specs.JobsTold.{JobTold, Stage, HasEnded, is_over}
use Rattle.account_laws.specs.ListedJobs as listed
use Rattle.account_laws.specs.ListedJobs.{EndsFall, EndsLater, JobsAreInOrder, Numbered, NumbersRise, at_most, ended_jobs, ends_later, jobs_listed, latest_first, put_by_end, unfinished_jobs}
use Rattle.account_laws.specs.StagesTold.{state_told}
use Rattle.account_laws.specs.StandsAsTold.{AreAsTold, IsAt, StandsAsTold}
use Rattle.account_machine.specs.Queues.{chosen}
use Rattle.account_rules.specs.JobStates.{is_unfinished}
use Rattle.account_rules.specs.declared.job.Job.{Job}
use Rattle.account_rules.specs.declared.job.Standing.{Standing}
use Rattle.account_state.proofs.FiniteMaps.{T_first, T_second, all_above, all_along, entries_here}
use Rattle.account_state.specs.Queues as queues
use Rattle.account_state.specs.Queues.{completed, first_jobs, is_later, not_completed}
use Rattle.account_state.specs.Rooms.{RoomValue}

-- ---- a job is over as its state says

abbrev pub EndsAsShown : JobTold → Type 0
EndsAsShown job = is_unfinished (state_told job.stage) ≡ not (is_over job.stage)

stage_ends : (stage : Stage) (s : Standing) → IsAt stage s → is_unfinished (state_told stage) ≡ not (is_over stage)
stage_ends (HasEnded how count units since ended) s at = ap is_unfinished (sym at.state) ∙ ends_at (HasEnded how count units since ended) s at
stage_ends _ s at = refl

job_ends : (number : ℕ) (told : Option JobTold) (room : RoomValue) (job : Option Job) → AreAsTold number told room job → (ticket : JobTold) → told ≡ Some ticket → EndsAsShown ticket
job_ends number told room job are ticket is = by job (subst (λ (o : Option JobTold). AreAsTold number o room job) is are)
  where
    by : (job : Option Job) → AreAsTold number (Some ticket) room job → EndsAsShown ticket
    by None are = absurd are
    by (Some job) are = stage_ends ticket.stage job.standing are.stage

all_end : (told : AccountTold) (room : RoomValue) → StandsAsTold told room → AllByRecursion (λ (job : Numbered). EndsAsShown job.1) (entries told.jobs)
all_end told room stands = all_along (λ (job : Numbered) is. job_ends job.0 (get told.jobs job.0) room (get room.jobs job.0) (stands.jobs job.0) job.1 is) (entries told.jobs) (entries_here told.jobs)

-- ---- those that are chosen

filter_alike : (test other : Numbered → Bool) (jobs : List Numbered) → AllByRecursion (λ (job : Numbered). test job ≡ other job) jobs → filter test jobs ≡ filter other jobs
filter_alike test other [] all = refl
filter_alike test other (job ∷ jobs) all = λ i. cond (all.0 i) (job ∷ filter_alike test other jobs all.1 i) (filter_alike test other jobs all.1 i)

pub not_not : (b : Bool) → not (not b) ≡ b
not_not true = refl
not_not false = refl

-- by whatever shows the state of a job, and its end in that order
module _ (told : AccountTold) (room : RoomValue) (stands : StandsAsTold told room) (shown : Numbered → Job) (state : (job : Numbered) → (shown job).standing.state ≡ state_told job.1.stage)
    (put_more : (other : Numbered) (others : List Numbered) (job : Numbered) → put_by_end (other ∷ others) job ≡ cond (is_later (shown job) (shown other)) (job ∷ other ∷ others) (other ∷ put_by_end others job)) where
  all_go_on : AllByRecursion (λ (job : Numbered). is_unfinished (shown job).standing.state ≡ not (is_over job.1.stage)) (entries told.jobs)
  all_go_on = all_along (λ (job : Numbered) ends. ap is_unfinished (state job) ∙ ends) (entries told.jobs) (all_end told room stands)

  pub unfinished_alike : not_completed (map shown (entries told.jobs)) ≡ map shown (unfinished_jobs told)
  unfinished_alike =
      filter_changed shown (λ (job : Job). is_unfinished job.standing.state) (entries told.jobs)
      ∙ ap (map shown) (filter_alike (λ (job : Numbered). is_unfinished (shown job).standing.state) (λ (job : Numbered). not (is_over job.1.stage)) (entries told.jobs) all_go_on)

  pub ended_alike : completed (map shown (entries told.jobs)) ≡ map shown (latest_first told)
  ended_alike =
      let same = filter_alike (λ (job : Numbered). not (is_unfinished (shown job).standing.state)) (λ (job : Numbered). is_over job.1.stage) (entries told.jobs) (all_along (λ (job : Numbered) is. ap not is ∙ not_not (is_over job.1.stage)) (entries told.jobs) all_go_on) in
      ap (fold queues.put_by_end []) (filter_changed shown (λ (job : Job). not (is_unfinished job.standing.state)) (entries told.jobs) ∙ ap (map shown) same) ∙ fold_shown shown put_by_end (λ _. refl) put_more [] (ended_jobs told)

abbrev shown_job : Numbered → Job
shown_job job = job_shown job.0 job.1

chosen_alike : (which : Which) (told : AccountTold) (room : RoomValue) → StandsAsTold told room → chosen which (jobs_told told) ≡ map shown_job (listed.chosen which told)
chosen_alike whiches.NotCompleted told room stands = unfinished_alike told room stands shown_job (λ _. refl) (λ _ _ _. refl)
chosen_alike whiches.Completed told room stands = ended_alike told room stands shown_job (λ _. refl) (λ _ _ _. refl)

first_alike : (most : Option ℕ) (jobs : List Numbered) → first_jobs most (map shown_job jobs) ≡ map shown_job (at_most most jobs)
first_alike None jobs = refl
first_alike (Some limit) jobs = take-map shown_job limit jobs

pub listed_alike : (which : Which) (limit : Option ℕ) (told : AccountTold) (room : RoomValue) → StandsAsTold told room → first_jobs limit (chosen which (jobs_told told)) ≡ map shown_job (jobs_listed which limit told)
listed_alike which limit told room stands = ap (first_jobs limit) (chosen_alike which told room stands) ∙ first_alike limit (listed.chosen which told)

-- ---- what holds of each job holds of each that is listed

module _ (Holds : Numbered → Type 0) where
  filter_holds : (test : Numbered → Bool) (jobs : List Numbered) → AllByRecursion Holds jobs → AllByRecursion Holds (filter test jobs)
  filter_holds test [] all = tt
  filter_holds test (job ∷ jobs) all =
      let rest = filter_holds test jobs all.1 in
      elim (test job) as (λ (b : Bool). AllByRecursion Holds (cond b (job ∷ filter test jobs) (filter test jobs))) [ true ↦ (all.0, rest) | false ↦ rest ]

  put_holds : (jobs : List Numbered) (job : Numbered) → Holds job → AllByRecursion Holds jobs → AllByRecursion Holds (put_by_end jobs job)
  put_holds [] job here all = (here, tt)
  put_holds (other ∷ jobs) job here all =
      let rest = put_holds jobs job here all.1 in
      elim (ends_later job other) as (λ (b : Bool). AllByRecursion Holds (cond b (job ∷ other ∷ jobs) (other ∷ put_by_end jobs job))) [ true ↦ (here, all) | false ↦ (all.0, rest) ]

  fold_holds : (put jobs : List Numbered) → AllByRecursion Holds put → AllByRecursion Holds jobs → AllByRecursion Holds (fold put_by_end put jobs)
  fold_holds put [] all more = all
  fold_holds put (job ∷ jobs) all more = fold_holds (put_by_end put job) jobs (put_holds put job more.0 all) more.1

  take_holds : (n : ℕ) (jobs : List Numbered) → AllByRecursion Holds jobs → AllByRecursion Holds (take n jobs)
  take_holds zero jobs all = tt
  take_holds (suc n) [] all = tt
  take_holds (suc n) (job ∷ jobs) all = (all.0, take_holds n jobs all.1)

  chosen_holds : (which : Which) (told : AccountTold) → AllByRecursion Holds (entries told.jobs) → AllByRecursion Holds (listed.chosen which told)
  chosen_holds whiches.NotCompleted told all = filter_holds (λ (job : Numbered). not (is_over job.1.stage)) (entries told.jobs) all
  chosen_holds whiches.Completed told all = fold_holds [] (ended_jobs told) tt (filter_holds (λ (job : Numbered). is_over job.1.stage) (entries told.jobs) all)

  most_hold : (limit : Option ℕ) (jobs : List Numbered) → AllByRecursion Holds jobs → AllByRecursion Holds (at_most limit jobs)
  most_hold None jobs all = all
  most_hold (Some n) jobs all = take_holds n jobs all

  pub listed_hold : (which : Which) (limit : Option ℕ) (told : AccountTold) → AllByRecursion Holds (entries told.jobs) → AllByRecursion Holds (jobs_listed which limit told)
  listed_hold which limit told all = most_hold limit (listed.chosen which told) (chosen_holds which told all)

-- ---- the order

rise_through : (test : Numbered → Bool) (jobs : List Numbered) → NumbersRise jobs → NumbersRise (filter test jobs)
rise_through test [] rising = tt
rise_through test (job ∷ jobs) rising =
    let rest = rise_through test jobs rising.1 in
    elim (test job) as (λ (b : Bool). NumbersRise (cond b (job ∷ filter test jobs) (filter test jobs))) [ true ↦ (filter_holds (λ (later : Numbered). job.0 < later.0) test jobs rising.0, rest) | false ↦ rest ]

sorted_rise : (jobs : List Numbered) → T (is_sorted nat_cmp jobs) → NumbersRise jobs
sorted_rise [] sorted = tt
sorted_rise (job ∷ jobs) sorted = (all_above job.0 jobs (T_first _ _ sorted), sorted_rise jobs (T_second _ _ sorted))

entries_rise : (told : AccountTold) → NumbersRise (entries told.jobs)
entries_rise told = sorted_rise (entries told.jobs) (entries_sorted told.jobs)

is_below : (m n : ℕ) → nat_lt m n ≡ true → m < n
is_below m n is = grind (arith, nat_tests)

later_told : (job other : Numbered) → ends_later job other ≡ true → EndsLater job other
later_told job other is = elim (or_cases _ _ is) [
  | inl after ↦ inl (is_below _ _ after)
  | inr tied ↦ let parts = and_parts _ _ tied in inr (eqb-true _ _ parts.0, is_below _ _ parts.1)
]

-- of two with other numbers, one ended later
later_else : (job other : Numbered) → other.0 < job.0 → ends_later job other ≡ false → EndsLater other job
later_else job other below isnt = grind (arith, nat_tests)

later_through : (a b c : Numbered) → EndsLater a b → EndsLater b c → EndsLater a c
later_through a b c (inl h) (inl k) = inl (omega (arith, h, k))
later_through a b c (inl h) (inr k) = inl (omega (arith, h, k.0))
later_through a b c (inr h) (inl k) = inl (omega (arith, h.0, k))
later_through a b c (inr h) (inr k) = inr (omega (arith, h.0, k.0), omega (arith, h.1, k.1))

put_permutes : (jobs : List Numbered) (job : Numbered) → IsPermutation (job ∷ jobs) (put_by_end jobs job)
put_permutes [] job = IsPermutation-refl (job ∷ [])
put_permutes (other ∷ jobs) job =
    let rest = put_permutes jobs job in
    elim (ends_later job other) as (λ (b : Bool). IsPermutation (job ∷ other ∷ jobs) (cond b (job ∷ other ∷ jobs) (other ∷ put_by_end jobs job))) [
      | true ↦ IsPermutation-refl (job ∷ other ∷ jobs)
      | false ↦ IsPermutation-trans _ _ _ (IsPermutation-sym _ _ (IsPermutation-middle (other ∷ []) job jobs)) (IsPermutation-cons other _ _ rest)
    ]

put_falls : (jobs : List Numbered) (job : Numbered) → AllByRecursion (λ (other : Numbered). other.0 < job.0) jobs → EndsFall jobs → EndsFall (put_by_end jobs job)
put_falls [] job lower fall = (tt, tt)
put_falls (other ∷ jobs) job lower fall =
    let rest = put_falls jobs job lower.1 fall.1 in
    (elim (ends_later job other) as (λ (b : Bool). ends_later job other ≡ b → EndsFall (cond b (job ∷ other ∷ jobs) (other ∷ put_by_end jobs job))) [
      | true ↦ λ is. let first = later_told job other is in ((first, all_along (λ (z : Numbered) h. later_through job other z first h) jobs fall.0), fall)
      | false ↦ λ isnt. (put_holds (EndsLater other) jobs job (later_else job other lower.0 isnt) fall.0, rest)
    ]) refl

fold_permutes : (put jobs : List Numbered) → IsPermutation (put ++ jobs) (fold put_by_end put jobs)
fold_permutes put [] = subst (λ (l : List Numbered). IsPermutation l put) (sym (append-nil put)) (IsPermutation-refl put)
fold_permutes put (job ∷ jobs) =
    IsPermutation-trans _ _ _ (IsPermutation-middle put job jobs)
    (IsPermutation-trans _ _ _ (IsPermutation-append (job ∷ put) (put_by_end put job) jobs jobs (put_permutes put job) (IsPermutation-refl jobs)) (fold_permutes (put_by_end put job) jobs))

-- each that was put has a lower number than each that follows
abbrev AllLower : List Numbered → List Numbered → Type 0
AllLower put jobs = AllByRecursion (λ (other : Numbered). AllByRecursion (λ (later : Numbered). other.0 < later.0) jobs) put

fold_falls : (put jobs : List Numbered) → EndsFall put → AllLower put jobs → NumbersRise jobs → EndsFall (fold put_by_end put jobs)
fold_falls put [] fall lower rising = fall
fold_falls put (job ∷ jobs) fall lower rising =
    fold_falls (put_by_end put job) jobs (put_falls put job (all_along (λ (other : Numbered) h. h.0) put lower) fall)
    (put_holds (λ (other : Numbered). AllByRecursion (λ (later : Numbered). other.0 < later.0) jobs) put job rising.0 (all_along (λ (other : Numbered) h. h.1) put lower)) rising.1

pub jobs_are_in_order : JobsAreInOrder
jobs_are_in_order told =
    let rising = entries_rise told in
    record {
      unfinished = rise_through (λ (job : Numbered). not (is_over job.1.stage)) (entries told.jobs) rising;
      all_ended = fold_permutes [] (ended_jobs told);
      by_end = fold_falls [] (ended_jobs told) tt tt (rise_through (λ (job : Numbered). is_over job.1.stage) (entries told.jobs) rising);
    }
