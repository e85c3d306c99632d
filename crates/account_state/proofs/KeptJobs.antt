-- The rules on jobs are kept as a job is made or its standing changes.
use Rattle.std.proofs.Common.{◌≡◌, ℕ, ◌+◌, ◌≤◌, Bool, true, false, cond, ◌==◌, List, [], ◌∷◌, map, Some, None, refl, sym, ap, subst, ◌∙◌, arith}
use Rattle.std.specs.List.{sum_by, count_by}
use Rattle.std.specs.Ordering.{nat_cmp}
use Rattle.std.specs.Cmp.{nat_cmp_total, unsigned_tied}
use Rattle.std.specs.FinMap.{FinMap, get, insert, entries, values, get-insert}
use Rattle.std.proofs.lemmas.Bool.{eqb-true}
use Rattle.std.proofs.lemmas.Bool.Decides.{nat_tests}
use Rattle.std.proofs.lemmas.List.Sums.{sum_by-cons}
use Rattle.account_rules.specs.JobStates.{is_unfinished}
use Rattle.account_rules.specs.declared.job.Job.{Job}
use Rattle.account_state.specs.Rooms.{RoomValue}
use Rattle.account_state.specs.RoomRules.{IsRoom, IsJobAt}
use Rattle.account_state.proofs.FiniteMaps.{sum-insert_new, sum-insert_there}

-- ---- one job of the map is new, or another
pub job_inserted : (jobs : FinMap nat_cmp Job) (number : ℕ) (job : Job) (q : ℕ) → get (insert jobs number job) q ≡ cond (q == number) (Some job) (get jobs q)
job_inserted jobs number job q = get-insert nat_cmp_total jobs number job q ∙ ap (λ b. cond b (Some job) (get jobs q)) (unsigned_tied q number)

pub jobs_with : (jobs : FinMap nat_cmp Job) (next number : ℕ) (job : Job) → ((q : ℕ) (other : Job) → get jobs q ≡ Some other → IsJobAt next q other) → IsJobAt next number job →
    (q : ℕ) (other : Job) → get (insert jobs number job) q ≡ Some other → IsJobAt next q other
jobs_with jobs next number job rules at q other here =
    (elim (q == number) as (λ b. (q == number) ≡ b → cond b (Some job) (get jobs q) ≡ Some other → IsJobAt next q other) [
      | true ↦ λ same is. let this : job ≡ other = cc in subst (λ (j : Job). IsJobAt next q j) this (subst (λ n. IsJobAt next n job) (sym (eqb-true q number same)) at)
      | false ↦ λ _ is. rules q other is
    ]) refl (sym (job_inserted jobs number job q) ∙ here)

pub below_more : (next later number : ℕ) (job : Job) → next ≤ later → IsJobAt next number job → IsJobAt later number job
below_more next later number job goes_up at = record {
  numbered = at.numbered;
  from_one = at.from_one;
  below_next = omega (arith, at.below_next, goes_up);
  name_fits = at.name_fits;
  password_fits = at.password_fits;
  standing = at.standing;
}

-- no job has the next number
pub none_next : (room : RoomValue) → IsRoom room → get room.jobs room.next ≡ None
none_next room rules =
    (elim (get room.jobs room.next) as (λ o. get room.jobs room.next ≡ o → o ≡ None) [
      | None ↦ λ _. refl
      | Some job ↦ λ here. absurd (omega (arith, (rules.jobs room.next job here).below_next))
    ]) refl

-- ---- how many are unfinished
abbrev weight : Job → ℕ
weight job = cond (is_unfinished job.standing.state) 1 0

sum-seconds : (f : Job → ℕ) (es : List (ℕ × Job)) → sum_by f (map (λ (e : ℕ × Job). e.1) es) ≡ sum_by (λ (e : ℕ × Job). f e.1) es
sum-seconds f [] = refl
sum-seconds f (e ∷ es) = sum_by-cons f e.1 (map (λ (e : ℕ × Job). e.1) es) ∙ ap (λ n. f e.1 + n) (sum-seconds f es) ∙ sym (sum_by-cons (λ (e : ℕ × Job). f e.1) e es)

-- of the sum over all jobs, where one is new
pub sum_of_new : (f : Job → ℕ) (jobs : FinMap nat_cmp Job) (number : ℕ) (job : Job) → get jobs number ≡ None → sum_by f (values (insert jobs number job)) ≡ f job + sum_by f (values jobs)
sum_of_new f jobs number job none =
    sum-seconds f (entries (insert jobs number job)) ∙ sum-insert_new nat_cmp (λ (e : ℕ × Job). f e.1) nat_cmp_total jobs number job none ∙ ap (λ n. f job + n) (sym (sum-seconds f (entries jobs)))

-- and where one is another
pub sum_of_other : (f : Job → ℕ) (jobs : FinMap nat_cmp Job) (number : ℕ) (was job : Job) → get jobs number ≡ Some was → sum_by f (values (insert jobs number job)) + f was ≡ sum_by f (values jobs) + f job
sum_of_other f jobs number was job here =
    ap (λ n. n + f was) (sum-seconds f (entries (insert jobs number job))) ∙ sum-insert_there jobs number (λ (e : ℕ × Job). f e.1) was job here ∙ ap (λ n. n + f job) (sym (sum-seconds f (entries jobs)))

weighs_one : (b : Bool) → cond b 1 0 ≤ 1
weighs_one true = omega arith
weighs_one false = omega arith

weighs_less : (a b : Bool) → (a ≡ true → b ≡ true) → cond a 1 0 ≤ cond b 1 0
weighs_less a b h = grind (arith, nat_tests)

pub one_more_unfinished : (jobs : FinMap nat_cmp Job) (number : ℕ) (job : Job) → get jobs number ≡ None →
    count_by (λ (job : Job). is_unfinished job.standing.state) (values (insert jobs number job)) ≤ count_by (λ (job : Job). is_unfinished job.standing.state) (values jobs) + 1
one_more_unfinished jobs number job none = omega (arith, sum_of_new weight jobs number job none, weighs_one (is_unfinished job.standing.state))

pub no_more_unfinished : (jobs : FinMap nat_cmp Job) (number : ℕ) (was job : Job) → get jobs number ≡ Some was → (is_unfinished job.standing.state ≡ true → is_unfinished was.standing.state ≡ true) →
    count_by (λ (job : Job). is_unfinished job.standing.state) (values (insert jobs number job)) ≤ count_by (λ (job : Job). is_unfinished job.standing.state) (values jobs)
no_more_unfinished jobs number was job here less =
    omega (arith, sum_of_other weight jobs number was job here, weighs_less (is_unfinished job.standing.state) (is_unfinished was.standing.state) less)
