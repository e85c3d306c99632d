-- What is left of the quota, as one job of a room gets another standing.
use Rattle.std.proofs.Common.{◌≡◌, ℕ, ◌+◌, pos, ◌+ℤ◌, ◌-ℤ◌, true, false, cond, List, [], ◌∷◌, map, Some, None, refl, sym, ap, ◌∙◌, arith}
use Rattle.std.specs.List.{sum_by}
use Rattle.std.specs.Ordering.{nat_cmp}
use Rattle.std.specs.FinMap.{FinMap, get, insert, entries, values}
use Rattle.std.proofs.lemmas.List.Sums.{sum_by-cons}
use Rattle.std.proofs.lemmas.Int.{ints}
use Rattle.account_rules.specs.JobStates.{is_unfinished}
use Rattle.account_replies.specs.Stations.{left_after}
use Rattle.account_machine.specs.Steps.{with_moved}
use Rattle.account_rules.specs.declared.job.Job.{Job}
use Rattle.account_rules.specs.declared.job.Standing.{Standing}
use Rattle.account_rules.specs.Months.{month_at}
use Rattle.account_rules.specs.Quota.{left_of}
use Rattle.account_state.proofs.FiniteMaps.{sum-insert_there}
use Rattle.account_state.specs.Changes.{with_standing, with_ended}
use Rattle.account_state.specs.Rooms.{RoomValue}
use Rattle.account_state.specs.Sums.{reserved_in, charged_in, granted_to, left_in, pages_by}

-- over the values of entries, or over the entries
sum_of_values : {X : Type 0} (f : X → ℕ) (es : List (ℕ × X)) → sum_by f (map (λ e. e.1) es) ≡ sum_by (λ (e : ℕ × X). f e.1) es
sum_of_values f [] = refl
sum_of_values {X} f (e ∷ es) = sum_by-cons f e.1 (map (λ e. e.1) es) ∙ ap (λ n. f e.1 + n) (sum_of_values f es) ∙ sym (sum_by-cons (λ (e : ℕ × X). f e.1) e es)

sum_there : {X : Type 0} (f : X → ℕ) (m : FinMap nat_cmp X) (k : ℕ) (w v : X) → get m k ≡ Some w → sum_by f (values (insert m k v)) + f w ≡ sum_by f (values m) + f v
sum_there {X} f m k w v there =
    ap (λ n. n + f w) (sum_of_values f (entries (insert m k v)))
    ∙ sum-insert_there m k (λ (e : ℕ × X). f e.1) w v there
    ∙ ap (λ n. n + f v) (sym (sum_of_values f (entries m)))

-- the job has its standing, whether it ends or not
pub moved_jobs : (room : RoomValue) (number : ℕ) (job : Job) (standing : Standing) → get room.jobs number ≡ Some job → (with_moved room number standing).jobs ≡ insert room.jobs number (record job { standing = standing })
moved_jobs room number job standing there =
    elim (is_unfinished standing.state) as (λ b. (cond b (with_standing room number standing None) (with_ended room number standing)).jobs ≡ insert room.jobs number (record job { standing = standing }))
    [ true ↦ rw there refl | false ↦ rw there refl ]

-- and its grants stay
pub moved_grants : (room : RoomValue) (number : ℕ) (standing : Standing) → (with_moved room number standing).grants ≡ room.grants
moved_grants room number standing =
    elim (is_unfinished standing.state) as (λ b. (cond b (with_standing room number standing None) (with_ended room number standing)).grants ≡ room.grants)
    [ true ↦ refl | false ↦ refl ]

pub reserved_moved : (room : RoomValue) (number : ℕ) (job : Job) (standing : Standing) → get room.jobs number ≡ Some job → reserved_in (with_moved room number standing) + job.standing.reserved ≡ reserved_in room + standing.reserved
reserved_moved room number job standing there =
    ap (λ (jobs : FinMap nat_cmp Job). sum_by (λ (j : Job). j.standing.reserved) (values jobs) + job.standing.reserved) (moved_jobs room number job standing there)
    ∙ sum_there (λ (j : Job). j.standing.reserved) room.jobs number job (record job { standing = standing }) there

pub charged_moved : (room : RoomValue) (number : ℕ) (job : Job) (standing : Standing) → get room.jobs number ≡ Some job → charged_in (with_moved room number standing) + job.standing.charged ≡ charged_in room + standing.charged
charged_moved room number job standing there =
    ap (λ (jobs : FinMap nat_cmp Job). sum_by (λ (j : Job). j.standing.charged) (values jobs) + job.standing.charged) (moved_jobs room number job standing there)
    ∙ sum_there (λ (j : Job). j.standing.charged) room.jobs number job (record job { standing = standing }) there

pub granted_moved : (room : RoomValue) (number : ℕ) (standing : Standing) (month : ℕ) → granted_to (with_moved room number standing) month ≡ granted_to room month
granted_moved room number standing month = ap (λ (grants : FinMap nat_cmp ℕ). sum_by (pages_by month) (entries grants)) (moved_grants room number standing)

balance : (granted reserved charged reserved_then charged_then a b c d : ℕ) → reserved_then + a ≡ reserved + c → charged_then + b ≡ charged + d →
    (left_of (pos granted) (pos reserved) (pos charged) +ℤ pos (a + b)) -ℤ pos (c + d) ≡ left_of (pos granted) (pos reserved_then) (pos charged_then)
balance granted reserved charged reserved_then charged_then a b c d r h = omega (arith, ints, r, h)

pub left_moved : (room : RoomValue) (now number : ℕ) (job : Job) (standing : Standing) → get room.jobs number ≡ Some job → left_after (left_in room now) job.standing standing ≡ left_in (with_moved room number standing) now
left_moved room now number job standing there =
    balance _ _ _ _ _ _ _ _ _ (reserved_moved room number job standing there) (charged_moved room number job standing there)
    ∙ ap (λ granted. left_of (pos granted) (pos (reserved_in (with_moved room number standing))) (pos (charged_in (with_moved room number standing)))) (sym (granted_moved room number standing (month_at now)))
