-- The two orders of Get-Jobs.
use Rattle.std.proofs.Common.{◌≡◌, ◌≢◌, ℕ, zero, suc, ◌<◌, Bool, true, false, cond, not, nat_lt, List, [], ◌∷◌, ◌++◌, filter, take, append-nil, Option, Some, None, inl, inr, refl, sym, subst, arith}
use Rattle.std.specs.List.{AllByRecursion, fold}
use Rattle.std.specs.List.Sorted.{IsPermutation}
use Rattle.std.proofs.lemmas.Bool.{and_parts, or_cases, eqb-true}
use Rattle.std.proofs.lemmas.Bool.Decides.{nat_tests}
use Rattle.std.proofs.lemmas.List.Sorted.{IsPermutation-refl, IsPermutation-trans, IsPermutation-cons, IsPermutation-middle, IsPermutation-sym, IsPermutation-append}
use Rattle.account_rules.specs.JobStates.{is_unfinished}
use Rattle.account_rules.specs.declared.job.Job.{Job}
use Rattle.account_state.specs.RoomRules.{NumbersRise}
use Rattle.account_state.specs.Queues.{is_later, put_by_end, not_completed, ended_jobs, completed, EndsLater, EndsFall, first_jobs}
use Rattle.account_state.proofs.FiniteMaps.{all_along}

all_filtered : {X : Type 0} (P : X → Type 0) (test : X → Bool) (xs : List X) → AllByRecursion P xs → AllByRecursion P (filter test xs)
all_filtered P test [] all = tt
all_filtered P test (x ∷ xs) all =
    let rest = all_filtered P test xs all.1 in
    elim (test x) as (λ b. AllByRecursion P (cond b (x ∷ filter test xs) (filter test xs))) [ true ↦ (all.0, rest) | false ↦ rest ]

filtered_rise : (test : Job → Bool) (jobs : List Job) → NumbersRise jobs → NumbersRise (filter test jobs)
filtered_rise test [] rising = tt
filtered_rise test (job ∷ jobs) rising =
    let rest = filtered_rise test jobs rising.1 in
    elim (test job) as (λ b. NumbersRise (cond b (job ∷ filter test jobs) (filter test jobs))) [ true ↦ (all_filtered (λ later. job.job < later.job) test jobs rising.0, rest) | false ↦ rest ]

pub not_completed_rise : (jobs : List Job) → NumbersRise jobs → NumbersRise (not_completed jobs)
not_completed_rise jobs rising = filtered_rise (λ (job : Job). is_unfinished job.standing.state) jobs rising

-- ---- which of two has ended later

is_below : (m n : ℕ) → nat_lt m n ≡ true → m < n
is_below m n h = grind (arith, nat_tests)

later_told : (job other : Job) → is_later job other ≡ true → EndsLater job other
later_told job other h = elim (or_cases _ _ h) [
  | inl after ↦ inl (is_below _ _ after)
  | inr tied ↦ let parts = and_parts _ _ tied in inr (eqb-true _ _ parts.0, is_below _ _ parts.1)
]

-- of two with other numbers, one is the later
later_else : (job other : Job) → other.job ≢ job.job → is_later job other ≡ false → EndsLater other job
later_else job other apart h = grind (arith, nat_tests)

pub later_through : (a b c : Job) → EndsLater a b → EndsLater b c → EndsLater a c
later_through a b c (inl h) (inl k) = inl (omega (arith, h, k))
later_through a b c (inl h) (inr k) = inl (omega (arith, h, k.0))
later_through a b c (inr h) (inl k) = inl (omega (arith, h.0, k))
later_through a b c (inr h) (inr k) = inr (omega (arith, h.0, k.0), omega (arith, h.1, k.1))

-- ---- a job is put among others

all_put : (P : Job → Type 0) (jobs : List Job) (job : Job) → AllByRecursion P jobs → P job → AllByRecursion P (put_by_end jobs job)
all_put P [] job all here = (here, tt)
all_put P (other ∷ jobs) job all here =
    elim (is_later job other) as (λ b. AllByRecursion P (cond b (job ∷ other ∷ jobs) (other ∷ put_by_end jobs job)))
    [ true ↦ (here, all) | false ↦ (all.0, all_put P jobs job all.1 here) ]

put_permutes : (jobs : List Job) (job : Job) → IsPermutation (job ∷ jobs) (put_by_end jobs job)
put_permutes [] job = IsPermutation-refl (job ∷ [])
put_permutes (other ∷ jobs) job =
    elim (is_later job other) as (λ b. IsPermutation (job ∷ other ∷ jobs) (cond b (job ∷ other ∷ jobs) (other ∷ put_by_end jobs job))) [
      | true ↦ IsPermutation-refl (job ∷ other ∷ jobs)
      | false ↦ IsPermutation-trans _ _ _ (IsPermutation-sym _ _ (IsPermutation-middle (other ∷ []) job jobs)) (IsPermutation-cons other _ _ (put_permutes jobs job))
    ]

put_falls : (jobs : List Job) (job : Job) → AllByRecursion (λ other. other.job < job.job) jobs → EndsFall jobs → EndsFall (put_by_end jobs job)
put_falls [] job lower fall = (tt, tt)
put_falls (other ∷ jobs) job lower fall =
    (elim (is_later job other) as (λ b. is_later job other ≡ b → EndsFall (cond b (job ∷ other ∷ jobs) (other ∷ put_by_end jobs job))) [
      | true ↦ λ is. let first = later_told job other is in ((first, all_along (λ (z : Job) h. later_through job other z first h) jobs fall.0), fall)
      | false ↦ λ isnt. (all_put (EndsLater other) jobs job fall.0 (later_else job other (let below = lower.0 in λ same. absurd (omega (arith, below, same))) isnt), put_falls jobs job lower.1 fall.1)
    ]) refl

-- ---- one after another

fold_permutes : (put jobs : List Job) → IsPermutation (put ++ jobs) (fold put_by_end put jobs)
fold_permutes put [] = subst (λ l. IsPermutation l put) (sym (append-nil put)) (IsPermutation-refl put)
fold_permutes put (job ∷ jobs) =
    IsPermutation-trans _ _ _ (IsPermutation-middle put job jobs)
    (IsPermutation-trans _ _ _ (IsPermutation-append (job ∷ put) (put_by_end put job) jobs jobs (put_permutes put job) (IsPermutation-refl jobs)) (fold_permutes (put_by_end put job) jobs))

all_taken : {X : Type 0} (P : X → Type 0) (n : ℕ) (xs : List X) → AllByRecursion P xs → AllByRecursion P (take n xs)
all_taken P zero xs all = tt
all_taken P (suc n) [] all = tt
all_taken P (suc n) (x ∷ xs) all = (all.0, all_taken P n xs all.1)

all_folded : {X : Type 0} (P : X → Type 0) (put : List X → X → List X) → ((xs : List X) (x : X) → AllByRecursion P xs → P x → AllByRecursion P (put xs x)) →
    (done xs : List X) → AllByRecursion P done → AllByRecursion P xs → AllByRecursion P (fold put done xs)
all_folded P put keeps done [] begun all = begun
all_folded P put keeps done (x ∷ xs) begun all = all_folded P put keeps (put done x) xs (keeps done x begun all.0) all.1

-- each of some is below each of others
abbrev AllLower : List Job → List Job → Type 0
AllLower put jobs = AllByRecursion (λ other. AllByRecursion (λ later. other.job < later.job) jobs) put

fold_falls : (put jobs : List Job) → EndsFall put → AllLower put jobs → NumbersRise jobs → EndsFall (fold put_by_end put jobs)
fold_falls put [] fall lower rising = fall
fold_falls put (job ∷ jobs) fall lower rising =
    fold_falls (put_by_end put job) jobs (put_falls put job (all_along (λ (other : Job) h. h.0) put lower) fall)
    (all_put (λ other. AllByRecursion (λ later. other.job < later.job) jobs) put job (all_along (λ (other : Job) h. h.1) put lower) rising.0) rising.1

pub completed_permutes : (jobs : List Job) → IsPermutation (ended_jobs jobs) (completed jobs)
completed_permutes jobs = fold_permutes [] (ended_jobs jobs)

pub completed_fall : (jobs : List Job) → NumbersRise jobs → EndsFall (completed jobs)
completed_fall jobs rising = fold_falls [] (ended_jobs jobs) tt tt (filtered_rise (λ (job : Job). not (is_unfinished job.standing.state)) jobs rising)

-- ---- what holds of each job holds of those that are listed

pub all_not_completed : (P : Job → Type 0) (jobs : List Job) → AllByRecursion P jobs → AllByRecursion P (not_completed jobs)
all_not_completed P jobs all = all_filtered P (λ (job : Job). is_unfinished job.standing.state) jobs all

pub all_completed : (P : Job → Type 0) (jobs : List Job) → AllByRecursion P jobs → AllByRecursion P (completed jobs)
all_completed P jobs all = all_folded P put_by_end (all_put P) [] (ended_jobs jobs) tt (all_filtered P (λ (job : Job). not (is_unfinished job.standing.state)) jobs all)

pub all_first_jobs : (P : Job → Type 0) (limit : Option ℕ) (jobs : List Job) → AllByRecursion P jobs → AllByRecursion P (first_jobs limit jobs)
all_first_jobs P None jobs all = all
all_first_jobs P (Some limit) jobs all = all_taken P limit jobs all
