-- The values of a map of jobs.
use Rattle.std.proofs.Common.{◌≡◌, ℕ, ◌<◌, T, List, [], ◌∷◌, map, Some, sym, subst, arith}
use Rattle.std.specs.List.{AllByRecursion}
use Rattle.std.specs.Ordering.{nat_cmp}
use Rattle.std.specs.FinMap.{FinMap, get, entries, values, is_sorted, entries_sorted}
use Rattle.account_rules.specs.declared.job.Job.{Job}
use Rattle.account_state.specs.RoomRules.{NumbersRise}
use Rattle.account_state.proofs.FiniteMaps.{all_along, entries_here, all_above, T_first, T_second}

seconds_keep : (P : ℕ → Job → Type 0) (es : List (ℕ × Job)) → AllByRecursion (λ (e : ℕ × Job). (e.1.job ≡ e.0) × P e.0 e.1) es → AllByRecursion (λ (job : Job). P job.job job) (map (λ (e : ℕ × Job). e.1) es)
seconds_keep P [] each = tt
seconds_keep P (e ∷ es) each = (subst (λ number. P number e.1) (sym each.0.0) each.0.1, seconds_keep P es each.1)

-- what holds of each job that is there holds of each value
pub values_keep : (P : ℕ → Job → Type 0) (jobs : FinMap nat_cmp Job) → ((number : ℕ) (job : Job) → get jobs number ≡ Some job → (job.job ≡ number) × P number job) → AllByRecursion (λ (job : Job). P job.job job) (values jobs)
values_keep P jobs each = seconds_keep P (entries jobs) (all_along (λ (e : ℕ × Job) is. each e.0 e.1 is) (entries jobs) (entries_here jobs))

seconds_rise : (es : List (ℕ × Job)) → T (is_sorted nat_cmp es) → AllByRecursion (λ (e : ℕ × Job). e.1.job ≡ e.0) es → NumbersRise (map (λ (e : ℕ × Job). e.1) es)
seconds_rise [] sorted numbered = tt
seconds_rise (e ∷ es) sorted numbered = (above es (all_above e.0 es (T_first _ _ sorted)) numbered.1, seconds_rise es (T_second _ _ sorted) numbered.1)
  where
    above : (later : List (ℕ × Job)) → AllByRecursion (λ f. e.0 < f.0) later → AllByRecursion (λ (f : ℕ × Job). f.1.job ≡ f.0) later → AllByRecursion (λ later. e.1.job < later.job) (map (λ (f : ℕ × Job). f.1) later)
    above [] keys_rise numbers = tt
    above (f ∷ later) keys_rise numbers = (omega (arith, keys_rise.0, numbers.0, numbered.0), above later keys_rise.1 numbers.1)

-- the values of a map of jobs, each under its number, stand by rising number
pub values_rise : (jobs : FinMap nat_cmp Job) → ((number : ℕ) (job : Job) → get jobs number ≡ Some job → job.job ≡ number) → NumbersRise (values jobs)
values_rise jobs numbered = seconds_rise (entries jobs) (entries_sorted jobs) (all_along (λ (e : ℕ × Job) is. numbered e.0 e.1 is) (entries jobs) (entries_here jobs))
