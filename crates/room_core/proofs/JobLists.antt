-- The list of the jobs of a room, and the map that it stands for.
use Rattle.std.proofs.Common.{◌≡◌, ℕ, ◌<◌, ◌==◌, ◌&&◌, Bool, true, false, T, List, [], ◌∷◌, ◌++◌, map, Some, None, refl, sym, ap, subst, ◌∙◌, arith, cond, Option, option_map}
use Rattle.std.specs.List.{find as first, AllByRecursion}
use Rattle.std.specs.Ordering.{nat_cmp, is_lt}
use Rattle.std.specs.Cmp.{nat_cmp_total}
use Rattle.std.specs.FinMap.{get, insert, entries, values, from_entries, is_sorted, nat_cmp-IsAntisymmetric, same_map, get-from_entries, get-from_sorted, entries-from_sorted}
use Rattle.std.specs.FinMap.Entries.{below_all}
use Rattle.std.proofs.lemmas.Bool.Decides.{nat_tests}
use Rattle.std.proofs.lemmas.Float.{T_from_true}
use Rattle.account_rules.specs.declared.job.Job.{Job}
use Rattle.account_state.specs.Rooms.{RoomValue}
use Rattle.room_core.specs.ProofRoomLists.{job_map, by_number}
use Rattle.account_state.specs.RoomRules.{NumbersRise}
use Rattle.account_state.proofs.FiniteMaps.{number_tie}
use Rattle.std.proofs.lemmas.Bool.{eqb-true}
use Rattle.account_rules.specs.declared.job.Standing.{Standing}
use Rattle.room_core.specs.ProofRestanding.{restood_job}
use Rattle.account_state.proofs.KeptJobs.{job_inserted}
use Rattle.room_core.proofs.KeyedMaps.{get_keyed, push_keyed, same_option}

pub get_job : (jobs : List Job) (number : ℕ) → get (job_map jobs) number ≡ first (λ job. job.job == number) jobs
get_job jobs number =
    get_keyed nat_cmp_total (λ (job : Job). job.job) (λ (job : Job). job) (λ number (job : Job). job.job == number) (λ number (job : Job). number_tie number job.job) jobs number
    ∙ same_option _

pub job_map-push : (jobs : List Job) (job : Job) → get (job_map jobs) job.job ≡ None → job_map (jobs ++ job ∷ []) ≡ insert (job_map jobs) job.job job
job_map-push jobs job none =
    push_keyed nat_cmp_total (λ (job : Job). job.job) (λ (job : Job). job) (λ number (job : Job). job.job == number) (λ number (job : Job). number_tie number job.job) nat_cmp-IsAntisymmetric jobs job none

-- ---- jobs by rising number are the map's values
above_number : (k n : ℕ) → k < n → is_lt (nat_cmp k n) ≡ true
above_number k n h = grind (arith, nat_tests)

both : (a b : Bool) → T a → T b → T (a && b)
both true b p q = q
both false b p q = absurd p

below_all_jobs : (k : ℕ) (jobs : List Job) → AllByRecursion (λ later. k < later.job) jobs → T (below_all nat_cmp k (map by_number jobs))
below_all_jobs k [] rising = tt
below_all_jobs k (job ∷ jobs) rising = both (is_lt (nat_cmp k job.job)) _ (T_from_true _ (above_number k job.job rising.0)) (below_all_jobs k jobs rising.1)

sorted_jobs : (jobs : List Job) → NumbersRise jobs → T (is_sorted nat_cmp (map by_number jobs))
sorted_jobs [] rising = tt
sorted_jobs (job ∷ jobs) rising = both (below_all nat_cmp job.job (map by_number jobs)) _ (below_all_jobs job.job jobs rising.0) (sorted_jobs jobs rising.1)

entries_of_sorted : (es : List (ℕ × Job)) → T (is_sorted nat_cmp es) → entries (from_entries {R = nat_cmp} es) ≡ es
entries_of_sorted es sorted =
    ap entries (same_map nat_cmp_total nat_cmp-IsAntisymmetric _ _ (λ q. get-from_entries nat_cmp_total es q ∙ sym (get-from_sorted nat_cmp es q sorted)))
    ∙ entries-from_sorted nat_cmp es sorted

second_parts : (jobs : List Job) → map (λ (e : ℕ × Job). e.1) (map by_number jobs) ≡ jobs
second_parts [] = refl
second_parts (job ∷ jobs) = ap (λ rest. job ∷ rest) (second_parts jobs)

pub values-job_map : (jobs : List Job) → NumbersRise jobs → values (job_map jobs) ≡ jobs
values-job_map jobs rising = ap (map (λ (e : ℕ × Job). e.1)) (entries_of_sorted _ (sorted_jobs jobs rising)) ∙ second_parts jobs

-- the list of jobs are those of the room
pub jobs_seen : (room view : RoomValue) (jobs given : List Job) → view ≡ room → view.jobs ≡ job_map jobs → given ≡ jobs → NumbersRise jobs → given ≡ values room.jobs
jobs_seen room view jobs given seen parts same rising = same ∙ sym (values-job_map jobs rising) ∙ ap values (sym parts) ∙ ap (λ (r : RoomValue). values r.jobs) seen

-- ---- the list of jobs
after_push : (k : ℕ) (jobs : List Job) (job : Job) → AllByRecursion (λ later. k < later.job) jobs → k < job.job → AllByRecursion (λ (later : Job). k < later.job) (jobs ++ job ∷ [])
after_push k [] job above last = (last, tt)
after_push k (j ∷ js) job above last = (above.0, after_push k js job above.1 last)

-- a job with a number above all
pub rise_push : (jobs : List Job) (job : Job) → NumbersRise jobs → AllByRecursion (λ other. other.job < job.job) jobs → NumbersRise (jobs ++ job ∷ [])
rise_push [] job rising below = (tt, tt)
rise_push (j ∷ js) job rising below = (after_push j.job js job rising.0 below.0, rise_push js job rising.1 below.1)

number_restood : (number : ℕ) (standing : Standing) (job : Job) → (restood_job number standing job).job ≡ job.job
number_restood number standing job = elim (job.job == number) as (λ b. (cond b (record job { standing = standing }) job).job ≡ job.job) [ true ↦ refl | false ↦ refl ]

after_restood : (k number : ℕ) (standing : Standing) (jobs : List Job) → AllByRecursion (λ later. k < later.job) jobs → AllByRecursion (λ (later : Job). k < later.job) (map (restood_job number standing) jobs)
after_restood k number standing [] above = tt
after_restood k number standing (j ∷ js) above = (subst (λ n. k < n) (sym (number_restood number standing j)) above.0, after_restood k number standing js above.1)

pub rise_restood : (number : ℕ) (standing : Standing) (jobs : List Job) → NumbersRise jobs → NumbersRise (map (restood_job number standing) jobs)
rise_restood number standing [] rising = tt
rise_restood number standing (j ∷ js) rising = (
  subst (λ n. AllByRecursion (λ (later : Job). n < later.job) (map (restood_job number standing) js)) (sym (number_restood number standing j)) (after_restood j.job number standing js rising.0),
  rise_restood number standing js rising.1,
)

-- ---- a job of the list whose standing changes is an insert in the map
first_restood : (number : ℕ) (standing : Standing) (q : ℕ) (jobs : List Job) →
    first (λ job. job.job == q) (map (restood_job number standing) jobs) ≡ option_map (restood_job number standing) (first (λ job. job.job == q) jobs)
first_restood number standing q [] = refl
first_restood number standing q (j ∷ js) =
    ap (λ n. cond (n == q) (Some (restood_job number standing j)) (first (λ (job : Job). job.job == q) (map (restood_job number standing) js))) (number_restood number standing j)
    ∙ (elim (j.job == q) as (λ b. cond b (Some (restood_job number standing j)) (first (λ (job : Job). job.job == q) (map (restood_job number standing) js)) ≡ option_map (restood_job number standing) (cond b (Some j) (first (λ (job : Job). job.job == q) js))) [
      | true ↦ refl
      | false ↦ first_restood number standing q js
    ])

-- what is found has the number
found_number : (q : ℕ) (jobs : List Job) (job : Job) → first (λ job. job.job == q) jobs ≡ Some job → (job.job == q) ≡ true
found_number q [] job here = cc
found_number q (j ∷ js) job here =
    (elim (j.job == q) as (λ b. (j.job == q) ≡ b → cond b (Some j) (first (λ job. job.job == q) js) ≡ Some job → (job.job == q) ≡ true) [
      | true ↦ λ same is. let this : j ≡ job = cc in ap (λ (x : Job). x.job == q) (sym this) ∙ same
      | false ↦ λ _ is. found_number q js job is
    ]) refl here

other_number : (n q number : ℕ) → (n == q) ≡ true → (n == number) ≡ (q == number)
other_number n q number same = ap (λ k. k == number) (eqb-true n q same)

restood_found : (number : ℕ) (standing : Standing) (q : ℕ) (o : Option Job) → ((job : Job) → o ≡ Some job → (job.job == q) ≡ true) →
    option_map (restood_job number standing) o ≡ option_map (λ job. cond (q == number) (record job { standing = standing }) job) o
restood_found number standing q None has = refl
restood_found number standing q (Some job) has = ap (λ b. Some (cond b (record job { standing = standing }) job)) (other_number job.job q number (has job refl))

pub job_map-restood : (jobs : List Job) (number : ℕ) (standing : Standing) (job : Job) → get (job_map jobs) number ≡ Some job →
    job_map (map (restood_job number standing) jobs) ≡ insert (job_map jobs) number (record job { standing = standing })
job_map-restood jobs number standing job here = same_map nat_cmp_total nat_cmp-IsAntisymmetric _ _ (λ q.
    get_job (map (restood_job number standing) jobs) q ∙ first_restood number standing q jobs
    ∙ restood_found number standing q (first (λ (job : Job). job.job == q) jobs) (found_number q jobs)
    ∙ ap (option_map (λ (job : Job). cond (q == number) (record job { standing = standing }) job)) (sym (get_job jobs q))
    ∙ (elim (q == number) as (λ b. (q == number) ≡ b → option_map (λ (job : Job). cond b (record job { standing = standing }) job) (get (job_map jobs) q) ≡ cond b (Some (record job { standing = standing })) (get (job_map jobs) q)) [
      | true ↦ λ same. ap (option_map (λ (job : Job). record job { standing = standing })) (ap (get (job_map jobs)) (eqb-true q number same) ∙ here)
      | false ↦ λ _. same_option (get (job_map jobs) q)
    ]) refl
    ∙ sym (job_inserted (job_map jobs) number (record job { standing = standing }) q))
