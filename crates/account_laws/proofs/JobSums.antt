-- Sums over the jobs that were told of, as one is new or another.
use Rattle.std.proofs.Common.{◌≡◌, ℕ, ◌+◌, List, [], ◌∷◌, map, Option, Some, None, refl, sym, ap, ◌∙◌}
use Rattle.std.specs.Cmp.{nat_cmp_total}
use Rattle.std.specs.FinMap.{FinMap, entries, get, insert, values}
use Rattle.std.specs.List.{sum_by}
use Rattle.std.specs.Option.{option_map_or}
use Rattle.std.specs.Ordering.{nat_cmp}
use Rattle.std.proofs.lemmas.List.Sums.{sum_by-cons}
use Rattle.account_laws.specs.AccountsTold.{AccountTold, with_job}
use Rattle.account_laws.specs.JobsTold.{JobTold}
use Rattle.account_state.proofs.FiniteMaps.{sum-insert_new, sum-insert_there}

seconds : {X : Type 0} (f : X → ℕ) (es : List (ℕ × X)) → sum_by f (map (λ (e : ℕ × X). e.1) es) ≡ sum_by (λ (e : ℕ × X). f e.1) es
seconds f [] = refl
seconds {X} f (e ∷ es) = sum_by-cons f e.1 (map (λ (e : ℕ × X). e.1) es) ∙ ap (λ n. f e.1 + n) (seconds f es) ∙ sym (sum_by-cons (λ (e : ℕ × X). f e.1) e es)

module _ (f : JobTold → ℕ) where
  abbrev pub sum_of : AccountTold → ℕ
  sum_of told = sum_by f (values told.jobs)

  pub sum_of_new : (jobs : FinMap nat_cmp JobTold) (number : ℕ) (job : JobTold) → get jobs number ≡ None → sum_by f (values (insert jobs number job)) ≡ f job + sum_by f (values jobs)
  sum_of_new jobs number job none = seconds f (entries (insert jobs number job)) ∙ sum-insert_new nat_cmp (λ (e : ℕ × JobTold). f e.1) nat_cmp_total jobs number job none ∙ ap (λ n. f job + n) (sym (seconds f (entries jobs)))

  pub sum_of_other : (jobs : FinMap nat_cmp JobTold) (number : ℕ) (was job : JobTold) → get jobs number ≡ Some was → sum_by f (values (insert jobs number job)) + f was ≡ sum_by f (values jobs) + f job
  sum_of_other jobs number was job here =
      ap (λ n. n + f was) (seconds f (entries (insert jobs number job))) ∙ sum-insert_there jobs number (λ (e : ℕ × JobTold). f e.1) was job here ∙ ap (λ n. n + f job) (sym (seconds f (entries jobs)))

  -- where one is another
  pub changed_sum : (told : AccountTold) (number : ℕ) (change : JobTold → JobTold) (job : JobTold) → get told.jobs number ≡ Some job → sum_of (with_job told number change) + f job ≡ sum_of told + f (change job)
  changed_sum told number change job is =
      ap (λ (found : Option JobTold). sum_of (option_map_or (λ (job : JobTold). record told { jobs = insert told.jobs number (change job) }) found told) + f job) is
      ∙ sum_of_other told.jobs number job (change job) is

  -- where none is there
  pub unchanged_sum : (told : AccountTold) (number : ℕ) (change : JobTold → JobTold) → get told.jobs number ≡ None → sum_of (with_job told number change) ≡ sum_of told
  unchanged_sum told number change none = ap (λ (found : Option JobTold). sum_of (option_map_or (λ (job : JobTold). record told { jobs = insert told.jobs number (change job) }) found told)) none

-- the grants stay, where a job changes
pub same_grants : (told : AccountTold) (number : ℕ) (change : JobTold → JobTold) → (with_job told number change).grants ≡ told.grants
same_grants told number change =
    elim (get told.jobs number) as (λ (found : Option JobTold). (option_map_or (λ (job : JobTold). record told { jobs = insert told.jobs number (change job) }) found told).grants ≡ told.grants)
    [ None ↦ refl | Some job ↦ refl ]
