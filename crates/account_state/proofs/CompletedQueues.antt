-- There is one queue of the completed jobs: two lists with the same jobs, in each of which each job ended
-- later than all after it, are the same.
use Rattle.std.proofs.Common.{◌≡◌, ℕ, zero, suc, ◌<◌, ◌⊎◌, List, [], ◌∷◌, length, get_or, inl, inr, refl, sym, ap, subst, ◌∙◌, arith}
use Rattle.std.specs.List.{AllByRecursion, Contains}
use Rattle.std.specs.List.Sorted.{IsPermutation}
use Rattle.std.proofs.lemmas.List.Sorted.{Contains-permutation, IsPermutation-sym}
use Rattle.account_rules.specs.declared.job.Job.{Job}
use Rattle.account_state.specs.Queues.{EndsLater, EndsFall, ended_jobs, completed, IsCompletedQueue}
use Rattle.account_state.specs.QueueLaws.{CompletedIsTheQueue}
use Rattle.account_state.specs.RoomRules.{NumbersRise}
use Rattle.account_state.proofs.QueueOrders.{later_through, completed_permutes, completed_fall}

never_later : (job : Job) → EndsLater job job → ⊥
never_later job (inl h) = omega (arith, h)
never_later job (inr h) = omega (arith, h.1)

later_at : (job : Job) (jobs : List Job) (k : ℕ) (d : Job) → AllByRecursion (EndsLater job) jobs → k < length jobs → EndsLater job (get_or jobs k d)
later_at job [] k d all below = absurd (omega (arith, below))
later_at job (next ∷ jobs) zero d all below = all.0
later_at job (next ∷ jobs) (suc k) d all below = later_at job jobs k d all.1 (omega (arith, below))

-- one among those after a job
later_than : (job : Job) (jobs : List Job) (one : Job) → AllByRecursion (EndsLater job) jobs → Contains jobs one → EndsLater job one
later_than job jobs one all at = subst (EndsLater job) at.2 (later_at job jobs at.0 one all at.1)

first_or_behind : (first : Job) (jobs : List Job) (one : Job) (k : ℕ) → k < length (first ∷ jobs) → get_or (first ∷ jobs) k one ≡ one → (first ≡ one) ⊎ Contains jobs one
first_or_behind first jobs one zero below is = inl is
first_or_behind first jobs one (suc k) below is = inr (k, omega (arith, below), is)

-- each of some is among others
abbrev AreAmong : List Job → List Job → Type 0
AreAmong some others = (one : Job) → Contains some one → Contains others one

first_of : (first : Job) (jobs : List Job) → Contains (first ∷ jobs) first
first_of first jobs = (0, omega arith, refl)

same_first : (a b : Job) (xs ys : List Job) → EndsFall (a ∷ xs) → EndsFall (b ∷ ys) → AreAmong (a ∷ xs) (b ∷ ys) → AreAmong (b ∷ ys) (a ∷ xs) → a ≡ b
same_first a b xs ys fall falls there back =
    let a_at = there a (first_of a xs) in
    let b_at = back b (first_of b ys) in
    elim (first_or_behind b ys a a_at.0 a_at.1 a_at.2) [
      | inl is ↦ sym is
      | inr a_behind ↦ elim (first_or_behind a xs b b_at.0 b_at.1 b_at.2) [
        | inl is ↦ is
        | inr b_behind ↦ absurd (never_later a (later_through a b a (later_than a xs b fall.0 b_behind) (later_than b ys a falls.0 a_behind)))
      ]
    ]

among_rest : (first : Job) (xs ys : List Job) → AllByRecursion (EndsLater first) xs → AreAmong (first ∷ xs) (first ∷ ys) → AreAmong xs ys
among_rest first xs ys fall there one at =
    let found = there one (suc at.0, omega (arith, at.1), at.2) in
    elim (first_or_behind first ys one found.0 found.1 found.2) [
      | inl is ↦ absurd (never_later one (subst (λ job. EndsLater job one) is (later_than first xs one fall at)))
      | inr behind ↦ behind
    ]

one_order : (xs ys : List Job) → EndsFall xs → EndsFall ys → AreAmong xs ys → AreAmong ys xs → xs ≡ ys
one_order [] [] fall falls there back = refl
one_order [] (b ∷ ys) fall falls there back = absurd (let at = back b (first_of b ys) in omega (arith, at.1))
one_order (a ∷ xs) [] fall falls there back = absurd (let at = there a (first_of a xs) in omega (arith, at.1))
one_order (a ∷ xs) (b ∷ ys) fall falls there back =
    let same : a ≡ b = same_first a b xs ys fall falls there back in
    let rest : xs ≡ ys =
    one_order xs ys fall.1 falls.1
    (among_rest a xs ys fall.0 (subst (λ job. AreAmong (a ∷ xs) (job ∷ ys)) (sym same) there))
    (among_rest a ys xs (subst (λ job. AllByRecursion (EndsLater job) ys) (sym same) falls.0) (subst (λ job. AreAmong (job ∷ ys) (a ∷ xs)) (sym same) back)) in
    ap (λ job. job ∷ xs) same ∙ ap (λ jobs. b ∷ jobs) rest

one_queue : (jobs xs ys : List Job) → IsCompletedQueue jobs xs → IsCompletedQueue jobs ys → xs ≡ ys
one_queue jobs xs ys is are =
    let among : (some others : List Job) → IsPermutation (ended_jobs jobs) some → IsPermutation (ended_jobs jobs) others → AreAmong some others =
    λ some others h k one at. Contains-permutation (ended_jobs jobs) others one k (Contains-permutation some (ended_jobs jobs) one (IsPermutation-sym (ended_jobs jobs) some h) at) in
    one_order xs ys is.latest_first are.latest_first (among xs ys is.all_ended are.all_ended) (among ys xs are.all_ended is.all_ended)

computed : (jobs : List Job) → NumbersRise jobs → IsCompletedQueue jobs (completed jobs)
computed jobs rising = record { all_ended = completed_permutes jobs; latest_first = completed_fall jobs rising }

pub completed_is_the_queue : CompletedIsTheQueue
completed_is_the_queue = record {
  is_one = computed;
  is_the_only = λ jobs queue rising is. one_queue jobs queue (completed jobs) is (computed jobs rising);
}
