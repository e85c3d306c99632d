-- What an account has left is what it was told.
use Rattle.std.proofs.Common.{◌≡◌, ℕ, pos, cond, not, Option, Some, None, option_map, ap, ◌∙◌}
use Rattle.std.proofs.lemmas.Bool.{not-true}
use Rattle.std.specs.Cmp.{nat_cmp_total}
use Rattle.std.specs.FinMap.{FinMap, entries, get, nat_cmp-IsAntisymmetric, same_map, values}
use Rattle.std.specs.List.{sum_by}
use Rattle.std.specs.Ordering.{nat_cmp}
use Rattle.account_laws.proofs.MappedValues.{sum_with_each}
use Rattle.account_laws.specs.AccountsTold.{AccountTold, charged_told, granted_told, left_told, pages_up_to, reserved_told}
use Rattle.account_laws.specs.JobsTold.{JobTold, Stage, Waits, IsFree, Prints, HasEnded, is_over, units_charged, units_held, units_reserved, units_taken}
use Rattle.account_laws.specs.AccountsTold.{unfinished_told}
use Rattle.account_laws.specs.StandsAsTold.{AreAsTold, IsAt, StandsAsTold}
use Rattle.account_rules.specs.JobStates.{is_unfinished}
use Rattle.account_rules.specs.Months.{month_at}
use Rattle.account_rules.specs.Quota.{left_of}
use Rattle.account_rules.specs.declared.job.Job.{Job}
use Rattle.account_rules.specs.declared.job.Standing.{Standing}
use Rattle.account_state.specs.RoomRules.{unfinished_count}
use Rattle.account_state.specs.Rooms.{RoomValue}
use Rattle.account_state.specs.Sums.{charged_in, granted_to, left_in, reserved_in}

-- ---- of one job

pub reserved_at : (stage : Stage) (s : Standing) → IsAt stage s → s.reserved ≡ units_held stage
reserved_at Waits s at = at.reserved
reserved_at (IsFree device rate units) s at = at.reserved
reserved_at (Prints device rate units since is_canceled) s at = at.reserved
reserved_at (HasEnded how count units since ended) s at = at.reserved

pub charged_at : (stage : Stage) (s : Standing) → IsAt stage s → s.charged ≡ units_taken stage
charged_at Waits s at = at.charged
charged_at (IsFree device rate units) s at = at.charged
charged_at (Prints device rate units since is_canceled) s at = at.charged
charged_at (HasEnded how count units since ended) s at = at.charged

pub ends_at : (stage : Stage) (s : Standing) → IsAt stage s → is_unfinished s.state ≡ not (is_over stage)
ends_at (HasEnded how count units since ended) s at = ap is_unfinished at.state ∙ not-true (is_unfinished how) at.is_end
ends_at _ s at = ap is_unfinished at.state

module _ (f : Job → ℕ) (g : JobTold → ℕ) (same : (ticket : JobTold) (job : Job) → IsAt ticket.stage job.standing → f job ≡ g ticket) where
  same_of : (number : ℕ) (room : RoomValue) (ticket : Option JobTold) (job : Option Job) → AreAsTold number ticket room job → option_map f job ≡ option_map g ticket
  same_of number room None job are = ap (option_map f) are
  same_of number room (Some ticket) None are = absurd are
  same_of number room (Some ticket) (Some job) are = ap Some (same ticket job are.stage)

  sums : (told : AccountTold) (room : RoomValue) → StandsAsTold told room → sum_by f (values room.jobs) ≡ sum_by g (values told.jobs)
  sums told room stands = sum_with_each f g room.jobs told.jobs (λ number. same_of number room (get told.jobs number) (get room.jobs number) (stands.jobs number))

-- ---- of all

pub reserved_as_told : (told : AccountTold) (room : RoomValue) → StandsAsTold told room → reserved_in room ≡ reserved_told told
reserved_as_told = sums (λ (job : Job). job.standing.reserved) units_reserved (λ ticket job at. reserved_at ticket.stage job.standing at)

pub charged_as_told : (told : AccountTold) (room : RoomValue) → StandsAsTold told room → charged_in room ≡ charged_told told
charged_as_told = sums (λ (job : Job). job.standing.charged) units_charged (λ ticket job at. charged_at ticket.stage job.standing at)

pub granted_as_told : (told : AccountTold) (room : RoomValue) → StandsAsTold told room → (month : ℕ) → granted_to room month ≡ granted_told told month
granted_as_told told room stands month = ap (λ (grants : FinMap nat_cmp ℕ). sum_by (pages_up_to month) (entries grants)) (same_map nat_cmp_total nat_cmp-IsAntisymmetric room.grants told.grants stands.grants)

pub left_as_told : (told : AccountTold) (room : RoomValue) → StandsAsTold told room → (now : ℕ) → left_in room now ≡ left_told told now
left_as_told told room stands now =
    ap (λ (granted : ℕ). left_of (pos granted) (pos (reserved_in room)) (pos (charged_in room))) (granted_as_told told room stands (month_at now))
    ∙ ap (λ (reserved : ℕ). left_of (pos (granted_told told (month_at now))) (pos reserved) (pos (charged_in room))) (reserved_as_told told room stands)
    ∙ ap (λ (charged : ℕ). left_of (pos (granted_told told (month_at now))) (pos (reserved_told told)) (pos charged)) (charged_as_told told room stands)

pub unfinished_as_told : (told : AccountTold) (room : RoomValue) → StandsAsTold told room → unfinished_count room ≡ unfinished_told told
unfinished_as_told = sums (λ (job : Job). cond (is_unfinished job.standing.state) 1 0) (λ (job : JobTold). cond (not (is_over job.stage)) 1 0) (λ ticket job at. ap (λ b. cond b 1 0) (ends_at ticket.stage job.standing at))
