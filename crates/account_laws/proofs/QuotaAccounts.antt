-- The account of the quota balances, by what was done in a life.
use Rattle.std.proofs.Common.{◌≡◌, ◌⊎◌, ℕ, ◌+◌, ◌*◌, ◌-◌, ◌≤◌, ℤ, pos, ◌≤ℤ◌, ◌-ℤ◌, nat_le, map, Bool, true, false, cond, ◌==◌, ◌&&◌, List, [], ◌∷◌, ◌++◌, Option, Some, None, option_map, IsSomeAnd, inl, inr, refl, sym, ap, subst, ◌∙◌, arith}
use Rattle.std.specs.Cmp.{nat_cmp_total}
use Rattle.std.specs.FinMap.{FinMap, empty, entries, get, get-empty, len-empty, len-entries}
use Rattle.std.specs.List.{fold, sum_by}
use Rattle.std.specs.Option.{option_map_or}
use Rattle.std.specs.Ordering.{nat_cmp}
use Rattle.std.proofs.lemmas.Bool.{eqb-true}
use Rattle.std.proofs.lemmas.Int.{ints}
use Rattle.std.proofs.lemmas.List.{nil_from_length}
use Rattle.std.proofs.lemmas.List.Sums.{sum_by-cons, sum_by_push}
use Rattle.std.proofs.lemmas.Option.{same_Some}
use Rattle.account_laws.proofs.AsTold.{told_more}
use Rattle.account_laws.proofs.FitDeeds.{HasLeft, IsFit, IsWaits, by_deeds, deeds_fit}
use Rattle.account_lives.proofs.LifeLemmas.{front_of_life}
use Rattle.account_laws.proofs.DeedFinds.{IsPrinted}
use Rattle.account_laws.proofs.DeedTurns.{turned, turned_so}
use Rattle.account_laws.proofs.JobSums.{changed_sum, same_grants, sum_of, sum_of_new, unchanged_sum}
use Rattle.account_laws.specs.AccountsTold.{AccountTold, account_told, after_deed, after_exchange, charged_told, granted_told, left_told, nothing_told, pages_up_to, rate_told, reserved_told, with_job}
use Rattle.account_laws.specs.Deeds.{Deed, Made, Brought, Canceled, HeldBack, Freed, Released, Started, Settled, Granted, deed_of, moment_of}
use Rattle.account_laws.specs.JobsTold.{JobTold, Stage, Waits, IsFree, Prints, HasEnded, impressions_told, job_brought, job_canceled, job_freed, job_held, job_made, job_released, job_settled, job_started, need_told, stage_canceled, stage_held, stage_released, stage_settled, stage_started, units_charged, units_held, units_reserved, units_taken}
use Rattle.account_lives.specs.Lives.{Exchange, IsLife, Life}
use Rattle.account_laws.specs.QuotaAccount.{AccountsBalance, IsBalanced, IsSettledAt, ReleasesOweNothing, SettlementsCharge, charge_by, given_back_by, given_back_in, granted_in, granted_up_to, overrun_by, overruns_in, pages_by, pages_by_month, rate_by, rate_fixed, rate_from, releases_now, reserve_by, reserved_for, reserves_in, sum_from, units_taken_back}
use Rattle.account_laws.specs.StationAnswers.{charge_of, is_waiting, need_at}
use Rattle.account_laws.specs.QuotaAccount.{or_else}
use Rattle.account_rules.specs.Devices.{Devices}
use Rattle.account_rules.specs.Months.{month_at}
use Rattle.account_state.proofs.FiniteMaps.{sum-insert_new}
use Rattle.account_state.specs.Rooms.{RoomValue}

-- ---- the rate that a release fixed

or_none : {A : Type 0} (o : Option A) → or_else o None ≡ o
or_none None = refl
or_none (Some x) = refl

or_assoc : {A : Type 0} (a b c : Option A) → or_else (or_else a b) c ≡ or_else a (or_else b c)
or_assoc None b c = refl
or_assoc (Some x) b c = refl

rate_more : (number : ℕ) (told : AccountTold) (past : Life) (x : Exchange) → rate_from number told (past ++ x ∷ []) ≡ or_else (rate_by number (fold after_exchange told past) (deed_of x)) (rate_from number told past)
rate_more number told [] x = sym (or_none (rate_by number told (deed_of x)))
rate_more number told (y ∷ past) x =
    ap (λ (rate : Option ℕ). or_else rate (rate_by number told (deed_of y))) (rate_more number (after_exchange told y) past x)
    ∙ or_assoc (rate_by number (fold after_exchange (after_exchange told y) past) (deed_of x)) (rate_from number (after_exchange told y) past) (rate_by number told (deed_of y))

-- a job that is released, or printed, has it
abbrev IsRated : (fixed : Option ℕ) → Stage → Type 0
IsRated fixed Waits = Unit {0}
IsRated fixed (IsFree device rate units) = fixed ≡ Some rate
IsRated fixed (Prints device rate units since is_canceled) = fixed ≡ Some rate
IsRated fixed (HasEnded how count units since at) = Unit {0}

abbrev IsRatedJob : (fixed : Option ℕ) → Option JobTold → Type 0
IsRatedJob fixed None = Unit {0}
IsRatedJob fixed (Some job) = IsRated fixed job.stage

rates_kept : (fixed : Option ℕ) (b : Bool) (change : JobTold → JobTold) (found : Option JobTold) → ((job : JobTold) → IsRated fixed job.stage → IsRated fixed (change job).stage) → IsRatedJob fixed found → IsRatedJob fixed (cond b (option_map change found) found)
rates_kept fixed true change None keeps is = is
rates_kept fixed true change (Some job) keeps is = keeps job is
rates_kept fixed false change found keeps is = is

rated_canceled : (fixed : Option ℕ) (now : ℕ) (stage : Stage) → IsRated fixed stage → IsRated fixed (stage_canceled now stage)
rated_canceled fixed now (Prints device rate units since is_canceled) is = is
rated_canceled fixed now _ is = tt

rated_held : (fixed : Option ℕ) (stage : Stage) → IsRated fixed stage → IsRated fixed (stage_held stage)
rated_held fixed (Prints device rate units since is_canceled) is = is
rated_held fixed _ is = tt

rated_started : (fixed : Option ℕ) (device : List ℕ) (now : ℕ) (stage : Stage) → IsRated fixed stage → IsRated fixed (stage_started device now stage)
rated_started fixed device now Waits is = tt
rated_started fixed device now (IsFree other rate units) is = is
rated_started fixed device now (Prints other rate units since is_canceled) is = is
rated_started fixed device now (HasEnded how count units since at) is = tt

rated_settled : (fixed : Option ℕ) (count : ℕ) (failed : Bool) (now : ℕ) (stage : Stage) → IsRated fixed stage → IsRated fixed (stage_settled count failed now stage)
rated_settled fixed count failed now (IsFree device rate units) is = is
rated_settled fixed count failed now _ is = tt

rated_freed : (fixed : Option ℕ) (units : ℕ) (stage : Stage) → IsRated fixed stage → IsRated (or_else (cond (is_waiting stage) (Some 1) None) fixed) (stage_released None 1 units stage)
rated_freed fixed units Waits is = refl
rated_freed fixed units (IsFree device rate reserved) is = is
rated_freed fixed units (Prints device rate reserved since is_canceled) is = is
rated_freed fixed units (HasEnded how count charged since at) is = tt

rated_released : (device : List ℕ) (rate units : ℕ) (stage : Stage) → IsWaits stage → IsRated (Some rate) (stage_released (Some device) rate units stage)
rated_released device rate units Waits waits = refl
rated_released device rate units _ waits = absurd waits

freed_rates : (fixed : Option ℕ) (b : Bool) (found : Option JobTold) → IsRatedJob fixed found → IsRatedJob (or_else (cond (b && option_map_or (λ (job : JobTold). is_waiting job.stage) found false) (Some 1) None) fixed) (cond b (option_map job_freed found) found)
freed_rates fixed true None is = tt
freed_rates fixed true (Some job) is = rated_freed fixed (need_told job.impressions 1 job) job.stage is
freed_rates fixed false found is = is

deed_rates : (now : ℕ) (told : AccountTold) (deed : Deed) → IsFit told now deed → (number : ℕ) (fixed : Option ℕ) → IsRatedJob fixed (get told.jobs number) → IsRatedJob (or_else (rate_by number told deed) fixed) (turned now told number deed)
deed_rates now told (Made ask) fit number fixed is = elim (number == told.next) as (λ (b : Bool). IsRatedJob fixed (cond b (Some (job_made now ask)) (get told.jobs number))) [ true ↦ tt | false ↦ is ]
deed_rates now told (Brought ask) fit number fixed is = rates_kept fixed (number == ask.job) (job_brought ask) (get told.jobs number) (λ job rated. rated) is
deed_rates now told (Canceled at) fit number fixed is = rates_kept fixed (number == at) (job_canceled now) (get told.jobs number) (λ job rated. rated_canceled fixed now job.stage rated) is
deed_rates now told (HeldBack at) fit number fixed is = rates_kept fixed (number == at) job_held (get told.jobs number) (λ job rated. rated_held fixed job.stage rated) is
deed_rates now told (Freed at) fit number fixed is = freed_rates fixed (number == at) (get told.jobs number) is
deed_rates now told (Released device at handed_in) fit number fixed is = by (number == at) refl
  where
    by : (b : Bool) → (number == at) ≡ b → IsRatedJob (or_else (cond b (Some (rate_told told device)) None) fixed) (cond b (option_map (job_released device (rate_told told device) handed_in) (get told.jobs number)) (get told.jobs number))
    by true same =
        subst (λ (o : Option JobTold). IsRatedJob (Some (rate_told told device)) (option_map (job_released device (rate_told told device) handed_in) o)) (sym (ap (get told.jobs) (eqb-true number at same) ∙ fit.is_told))
        (rated_released device (rate_told told device) (need_told (impressions_told handed_in fit.job) (rate_told told device) fit.job) fit.job.stage fit.is.0)
    by false other = is
deed_rates now told (Started device at) fit number fixed is = rates_kept fixed (number == at) (job_started device now) (get told.jobs number) (λ job rated. rated_started fixed device now job.stage rated) is
deed_rates now told (Settled device at count failed) fit number fixed is = rates_kept fixed (number == at) (job_settled count failed now) (get told.jobs number) (λ job rated. rated_settled fixed count failed now job.stage rated) is
deed_rates now told _ fit number fixed is = is

abbrev AreRated : Life → Type 0
AreRated life = (number : ℕ) → IsRatedJob (rate_fixed number life) (get (account_told life).jobs number)

are_rated : (life : Life) (room : Option RoomValue) (devices : Devices) → IsLife life room devices → AreRated life
are_rated =
    by_deeds AreRated (λ number. subst (IsRatedJob None) (sym (get-empty nat_cmp number)) tt)
    (λ past x fit holds number.
    subst (λ (fixed : Option ℕ). IsRatedJob fixed (get (account_told (past ++ x ∷ [])).jobs number)) (sym (rate_more number nothing_told past x))
    (subst (IsRatedJob (or_else (rate_by number (account_told past) (deed_of x)) (rate_fixed number past))) (sym (ap (λ (told : AccountTold). get told.jobs number) (told_more past x) ∙ turned_so (moment_of x) (account_told past) number (deed_of x)))
    (deed_rates (moment_of x) (account_told past) (deed_of x) fit number (rate_fixed number past) (holds number))))

-- ---- what a change of one job makes of the sums

-- no more is reserved, and no more or less charged
record Eases (was is : JobTold) : Type 0 where
  pub reserved : units_reserved is ≤ units_reserved was
  pub charged : units_charged is ≡ units_charged was

record IsEased (before after : AccountTold) : Type 0 where
  pub reserved : reserved_told after ≤ reserved_told before
  pub charged : charged_told after ≡ charged_told before

less_reserved : (after before was is : ℕ) → after + was ≡ before + is → is ≤ was → after ≤ before
less_reserved after before was is sum less = omega arith

same_charged : (after before was is : ℕ) → after + was ≡ before + is → is ≡ was → after ≡ before
same_charged after before was is sum same = omega arith

none_less : (a b : ℕ) → a ≡ b → a ≤ b
none_less a b same = omega arith

eased : (told : AccountTold) (number : ℕ) (change : JobTold → JobTold) → ((job : JobTold) → get told.jobs number ≡ Some job → Eases job (change job)) → IsEased told (with_job told number change)
eased told number change eases = by (get told.jobs number) refl
  where
    by : (found : Option JobTold) → get told.jobs number ≡ found → IsEased told (with_job told number change)
    by None none = record { reserved = none_less _ _ (unchanged_sum units_reserved told number change none); charged = unchanged_sum units_charged told number change none }
    by (Some job) is = record {
      reserved = less_reserved _ _ (units_reserved job) (units_reserved (change job)) (changed_sum units_reserved told number change job is) (eases job is).reserved;
      charged = same_charged _ _ (units_charged job) (units_charged (change job)) (changed_sum units_charged told number change job is) (eases job is).charged;
    }

-- a release: so many are reserved
record IsReserved (before after : AccountTold) (need : ℕ) : Type 0 where
  pub reserved : reserved_told after ≡ reserved_told before + need
  pub charged : charged_told after ≡ charged_told before
  pub grants : (month : ℕ) → granted_told after month ≡ granted_told before month

-- its job had none
record Reserves (was is : JobTold) (need : ℕ) : Type 0 where
  pub had_none : units_reserved was ≡ 0
  pub has : units_reserved is ≡ need
  pub charged : units_charged is ≡ units_charged was

more_reserved : (after before was is need : ℕ) → after + was ≡ before + is → was ≡ 0 → is ≡ need → after ≡ before + need
more_reserved after before was is need sum none has = omega arith

grants_stay : (told : AccountTold) (number : ℕ) (change : JobTold → JobTold) (month : ℕ) → granted_told (with_job told number change) month ≡ granted_told told month
grants_stay told number change month = ap (λ (grants : FinMap nat_cmp ℕ). sum_by (pages_up_to month) (entries grants)) (same_grants told number change)

reserving : (told : AccountTold) (number : ℕ) (change : JobTold → JobTold) (job : JobTold) (need : ℕ) → get told.jobs number ≡ Some job → Reserves job (change job) need → IsReserved told (with_job told number change) need
reserving told number change job need is reserves = record {
  reserved = more_reserved _ _ (units_reserved job) (units_reserved (change job)) need (changed_sum units_reserved told number change job is) reserves.had_none reserves.has;
  charged = same_charged _ _ (units_charged job) (units_charged (change job)) (changed_sum units_charged told number change job is) reserves.charged;
  grants = grants_stay told number change;
}

within_left : (granted reserved charged need reserved_after charged_after : ℕ) → pos need ≤ℤ ((pos granted -ℤ pos reserved) -ℤ pos charged) → reserved_after ≡ reserved + need → charged_after ≡ charged → reserved_after + charged_after ≤ granted
within_left granted reserved charged need reserved_after charged_after fits more same = omega (arith, ints)

none_owed : (granted reserved charged need granted_after reserved_after charged_after : ℕ) → pos need ≤ℤ ((pos granted -ℤ pos reserved) -ℤ pos charged) → granted_after ≡ granted → reserved_after ≡ reserved + need → charged_after ≡ charged
    → pos 0 ≤ℤ ((pos granted_after -ℤ pos reserved_after) -ℤ pos charged_after)
none_owed granted reserved charged need granted_after reserved_after charged_after fits all more same = omega (arith, ints)

-- by the stage of the job
by_waiting : (need : ℕ) (device : Option (List ℕ)) (rate : ℕ) (stage : Stage) → IsWaits stage → (units_held stage ≡ 0) × (units_held (stage_released device rate need stage) ≡ need) × (units_taken (stage_released device rate need stage) ≡ units_taken stage)
by_waiting need device rate Waits waits = (refl, refl, refl)
by_waiting need device rate _ waits = absurd waits

left_of_waiting : (need : ℕ) (left : ℤ) (stage : Stage) → IsWaits stage → HasLeft need left stage → pos need ≤ℤ left
left_of_waiting need left Waits waits has = has
left_of_waiting need left _ waits has = absurd waits

-- one that waits or does not
waits_or : (stage : Stage) → IsWaits stage ⊎ (is_waiting stage ≡ false)
waits_or Waits = inl tt
waits_or _ = inr refl

waits_so : (stage : Stage) → is_waiting stage ≡ true → IsWaits stage
waits_so Waits is = tt
waits_so _ is = let no : ⊥ = cc in absurd no

stays_so : (device : Option (List ℕ)) (rate units : ℕ) (stage : Stage) → is_waiting stage ≡ false → stage_released device rate units stage ≡ stage
stays_so device rate units Waits is = let no : ⊥ = cc in absurd no
stays_so device rate units _ is = refl

-- a release by its deed
released_then : (now : ℕ) (told : AccountTold) (deed : Deed) → IsFit told now deed → releases_now told deed ≡ true → (need : ℕ) × (pos need ≤ℤ left_told told now) × IsReserved told (after_deed now told deed) need
released_then now told (Released device number handed_in) fit is =
    let need = need_at told device handed_in fit.job in
    let by = by_waiting need (Some device) (rate_told told device) fit.job.stage fit.is.0 in (
      need,
      left_of_waiting need (left_told told now) fit.job.stage fit.is.0 fit.is.1,
      reserving told number (job_released device (rate_told told device) handed_in) fit.job need fit.is_told (record { had_none = by.0; has = by.1; charged = by.2 }),
    )
released_then now told (Freed number) fit is =
    let need = need_told fit.job.impressions 1 fit.job in
    let waits = waits_so fit.job.stage (sym (ap (λ (found : Option JobTold). option_map_or (λ (job : JobTold). is_waiting job.stage) found false) fit.is_told) ∙ is) in
    let by = by_waiting need None 1 fit.job.stage waits in (
      need,
      left_of_waiting need (left_told told now) fit.job.stage waits fit.is,
      reserving told number job_freed fit.job need fit.is_told (record { had_none = by.0; has = by.1; charged = by.2 }),
    )
released_then now told _ fit is = let no : ⊥ = cc in absurd no

pub releases_owe_nothing : ReleasesOweNothing
releases_owe_nothing life room devices is past later x here releases =
    let told = account_told past in
    let then = released_then (moment_of x) told (deed_of x) (deeds_fit life room devices is past later x here) releases in
    let month = month_at (moment_of x) in
    subst (λ (after : AccountTold). pos 0 ≤ℤ left_told after (moment_of x)) (sym (told_more past x))
    (none_owed (granted_told told month) (reserved_told told) (charged_told told) then.0 _ _ _ then.1 (then.2.grants month) then.2.reserved then.2.charged)

-- ---- a settlement

by_printing : (count : ℕ) (failed : Bool) (now : ℕ) (stage : Stage) → IsPrinted stage → (units_held (stage_settled count failed now stage) ≡ 0) × (units_taken (stage_settled count failed now stage) ≡ charge_of count stage) × (units_taken stage ≡ 0)
by_printing count failed now (Prints device rate units since is_canceled) prints = (refl, refl, refl)
by_printing count failed now _ prints = absurd prints

given_back : (after before was is : ℕ) → after + was ≡ before + is → is ≡ 0 → after + was ≡ before
given_back after before was is sum none = omega arith

record HasSettled (now : ℕ) (told : AccountTold) (deed : Deed) : Type 0 where
  pub charged : charged_told (after_deed now told deed) ≡ charged_told told + charge_by told deed
  pub reserved : reserved_told (after_deed now told deed) + reserved_for told deed ≡ reserved_told told

settled_then : (now : ℕ) (told : AccountTold) (device : List ℕ) (number count : ℕ) (failed : Bool) → IsFit told now (Settled device number count failed) → HasSettled now told (Settled device number count failed)
settled_then now told device number count failed fit =
    let by = by_printing count failed now fit.job.stage fit.is in
    let change = job_settled count failed now in
    record {
      charged = more_reserved _ _ (units_charged fit.job) (units_charged (change fit.job)) (charge_of count fit.job.stage) (changed_sum units_charged told number change fit.job fit.is_told) by.2 by.1
          ∙ sym (ap (λ (found : Option JobTold). charged_told told + option_map_or (λ (job : JobTold). charge_of count job.stage) found 0) fit.is_told);
      reserved = ap (λ (found : Option JobTold). reserved_told (with_job told number change) + option_map_or units_reserved found 0) fit.is_told
          ∙ given_back _ _ (units_reserved fit.job) (units_reserved (change fit.job)) (changed_sum units_reserved told number change fit.job fit.is_told) by.0;
    }

rate_of_printing : (fixed : Option ℕ) (stage : Stage) → IsPrinted stage → IsRated fixed stage → (P : ℕ → Type 0) → ((rate : ℕ) → ((count : ℕ) → charge_of count stage ≡ count * rate) → P rate) → IsSomeAnd fixed P
rate_of_printing fixed (Prints device rate units since is_canceled) prints rated P by = subst (λ (o : Option ℕ). IsSomeAnd o P) (sym rated) (by rate (λ count. refl))
rate_of_printing fixed _ prints rated P by = absurd prints

pub settlements_charge : SettlementsCharge
settlements_charge life room devices is past later x device number count failed here settles =
    let told = account_told past in
    let fit = subst (IsFit told (moment_of x)) settles (deeds_fit life room devices is past later x here) in
    let then = settled_then (moment_of x) told device number count failed fit in
    let front = front_of_life life past later x room devices is here in
    let rated = subst (IsRatedJob (rate_fixed number past)) fit.is_told (are_rated past front.room front.devices front.first number) in
    let more : account_told (past ++ x ∷ []) ≡ after_deed (moment_of x) told (Settled device number count failed) = told_more past x ∙ ap (after_deed (moment_of x) told) settles in
    rate_of_printing (rate_fixed number past) fit.job.stage fit.is rated (λ rate. IsSettledAt rate count number told (account_told (past ++ x ∷ [])))
    (λ rate charge. record {
      charged = ap charged_told more ∙ then.charged ∙ ap (λ (n : ℕ). charged_told told + n) (ap (λ (found : Option JobTold). option_map_or (λ (job : JobTold). charge_of count job.stage) found 0) fit.is_told ∙ charge count);
      given_back = ap (λ (after : AccountTold). reserved_told after + option_map_or units_reserved (get told.jobs number) 0) more ∙ then.reserved;
    })

-- ---- the sums over a life

sum_more : (count : (told : AccountTold) → Deed → ℕ) (told : AccountTold) (past : Life) (x : Exchange) → sum_from count told (past ++ x ∷ []) ≡ sum_from count told past + count (fold after_exchange told past) (deed_of x)
sum_more count told [] x = omega arith
sum_more count told (y ∷ past) x = let rest = sum_more count (after_exchange told y) past x in omega (arith, rest)

-- what a deed adds to the sums
record Adds (now : ℕ) (told : AccountTold) (deed : Deed) : Type 0 where
  pub granted : (month : ℕ) → granted_told (after_deed now told deed) month ≡ granted_told told month + pages_by_month month deed
  pub charged : charged_told (after_deed now told deed) ≡ charged_told told + charge_by told deed
  pub within : (reserved_told (after_deed now told deed) + charged_told (after_deed now told deed) ≤ reserved_told told + charged_told told + (pages_by deed + overrun_by told deed))
      ⊎ (reserved_told (after_deed now told deed) + charged_told (after_deed now told deed) ≤ granted_told told (month_at now))

none_added : (a b : ℕ) → a ≡ b → a ≡ b + 0
none_added a b same = omega arith

within_less : (reserved charged reserved_after charged_after more : ℕ) → reserved_after ≤ reserved → charged_after ≡ charged → reserved_after + charged_after ≤ reserved + charged + more
within_less reserved charged reserved_after charged_after more less same = omega arith

quiet_adds : (reserved charged more : ℕ) → reserved + charged ≤ reserved + charged + more
quiet_adds reserved charged more = omega arith

-- a deed that changes one job, and eases it
eased_adds : (now : ℕ) (told : AccountTold) (deed : Deed) (number : ℕ) (change : JobTold → JobTold) → after_deed now told deed ≡ with_job told number change → ((month : ℕ) → pages_by_month month deed ≡ 0) → charge_by told deed ≡ 0
    → ((job : JobTold) → get told.jobs number ≡ Some job → Eases job (change job)) → Adds now told deed
eased_adds now told deed number change is no_pages no_charge eases =
    let sums = subst (IsEased told) (sym is) (eased told number change eases) in
    record {
      granted = λ month. ap (λ (after : AccountTold). granted_told after month) is ∙ grants_stay told number change month ∙ none_added _ _ refl ∙ ap (λ (n : ℕ). granted_told told month + n) (sym (no_pages month));
      charged = sums.charged ∙ none_added _ _ refl ∙ ap (λ (n : ℕ). charged_told told + n) (sym no_charge);
      within = inl (within_less (reserved_told told) (charged_told told) _ _ _ sums.reserved sums.charged);
    }

-- one that releases
released_adds : (now : ℕ) (told : AccountTold) (deed : Deed) → IsFit told now deed → releases_now told deed ≡ true → ((month : ℕ) → pages_by_month month deed ≡ 0) → charge_by told deed ≡ 0 → Adds now told deed
released_adds now told deed fit releases no_pages no_charge =
    let then = released_then now told deed fit releases in
    record {
      granted = λ month. then.2.grants month ∙ none_added _ _ refl ∙ ap (λ (n : ℕ). granted_told told month + n) (sym (no_pages month));
      charged = then.2.charged ∙ none_added _ _ refl ∙ ap (λ (n : ℕ). charged_told told + n) (sym no_charge);
      within = inr (within_left (granted_told told (month_at now)) (reserved_told told) (charged_told told) then.0 _ _ then.1 then.2.reserved then.2.charged);
    }

canceled_eases : (now : ℕ) (stage : Stage) → (units_held (stage_canceled now stage) ≤ units_held stage) × (units_taken (stage_canceled now stage) ≡ units_taken stage)
canceled_eases now Waits = (omega arith, refl)
canceled_eases now (IsFree device rate units) = (omega arith, refl)
canceled_eases now (Prints device rate units since is_canceled) = (omega arith, refl)
canceled_eases now (HasEnded how count units since at) = (omega arith, refl)

held_eases : (stage : Stage) → (units_held (stage_held stage) ≤ units_held stage) × (units_taken (stage_held stage) ≡ units_taken stage)
held_eases Waits = (omega arith, refl)
held_eases (IsFree device rate units) = (omega arith, refl)
held_eases (Prints device rate units since is_canceled) = (omega arith, refl)
held_eases (HasEnded how count units since at) = (omega arith, refl)

started_eases : (device : List ℕ) (now : ℕ) (stage : Stage) → (units_held (stage_started device now stage) ≤ units_held stage) × (units_taken (stage_started device now stage) ≡ units_taken stage)
started_eases device now Waits = (omega arith, refl)
started_eases device now (IsFree other rate units) = (omega arith, refl)
started_eases device now (Prints other rate units since is_canceled) = (omega arith, refl)
started_eases device now (HasEnded how count units since at) = (omega arith, refl)

overran : (reserved charged reserved_after charged_after for_it charge : ℕ) → reserved_after + for_it ≡ reserved → charged_after ≡ charged + charge → reserved_after + charged_after ≤ reserved + charged + (0 + (charge - for_it))
overran reserved charged reserved_after charged_after for_it charge back more = omega arith

new_within : (reserved charged reserved_after charged_after own_reserved own_charged more : ℕ) → reserved_after ≡ own_reserved + reserved → charged_after ≡ own_charged + charged → own_reserved ≡ 0 → own_charged ≡ 0 → reserved_after + charged_after ≤ reserved + charged + more
new_within reserved charged reserved_after charged_after own_reserved own_charged more r c none neither = omega arith

turned_round : (a b c : ℕ) → a ≡ b + c → a ≡ c + b
turned_round a b c same = omega arith

-- ---- what is reserved and what is given back

-- what was reserved before and is now reserved is given back and is still reserved
abbrev MovesReserved : (now : ℕ) (told : AccountTold) (deed : Deed) → Type 0
MovesReserved now told deed =
    reserved_told (after_deed now told deed) + given_back_by told deed ≡ reserved_told told + reserve_by told deed

both_sides : (after before was is back reserve : ℕ) → after + was ≡ before + is → is + back ≡ was + reserve → after + back ≡ before + reserve
both_sides after before was is back reserve sum one = omega arith

neither_side : (after before : ℕ) → after ≡ before → after + 0 ≡ before + 0
neither_side after before same = omega arith

-- where the job of the number alone changes
moves_one : (told : AccountTold) (number : ℕ) (change : JobTold → JobTold) (back reserve : JobTold → ℕ)
    → ((job : JobTold) → get told.jobs number ≡ Some job → units_reserved (change job) + back job ≡ units_reserved job + reserve job)
    → reserved_told (with_job told number change) + option_map_or back (get told.jobs number) 0 ≡ reserved_told told + option_map_or reserve (get told.jobs number) 0
moves_one told number change back reserve one = by (get told.jobs number) refl
  where
    by : (found : Option JobTold) → get told.jobs number ≡ found → reserved_told (with_job told number change) + option_map_or back found 0 ≡ reserved_told told + option_map_or reserve found 0
    by None none = neither_side _ _ (unchanged_sum units_reserved told number change none)
    by (Some job) is = both_sides _ _ (units_reserved job) (units_reserved (change job)) (back job) (reserve job) (changed_sum units_reserved told number change job is) (one job is)

abbrev no_units : JobTold → ℕ
no_units job = 0

always_none : (found : Option JobTold) → option_map_or no_units found 0 ≡ 0
always_none None = refl
always_none (Some job) = refl

-- a deed that changes one job, and reserves nothing
moves_back : (told : AccountTold) (number : ℕ) (change : JobTold → JobTold) (back : JobTold → ℕ) → ((job : JobTold) → get told.jobs number ≡ Some job → units_reserved (change job) + back job ≡ units_reserved job + 0)
    → reserved_told (with_job told number change) + option_map_or back (get told.jobs number) 0 ≡ reserved_told told + 0
moves_back told number change back one =
    moves_one told number change back no_units one ∙ ap (λ (n : ℕ). reserved_told told + n) (always_none (get told.jobs number))

-- or gives nothing back
moves_on : (told : AccountTold) (number : ℕ) (change : JobTold → JobTold) (reserve : JobTold → ℕ) → ((job : JobTold) → get told.jobs number ≡ Some job → units_reserved (change job) + 0 ≡ units_reserved job + reserve job)
    → reserved_told (with_job told number change) + 0 ≡ reserved_told told + option_map_or reserve (get told.jobs number) 0
moves_on told number change reserve one =
    sym (ap (λ (n : ℕ). reserved_told (with_job told number change) + n) (always_none (get told.jobs number))) ∙ moves_one told number change no_units reserve one

-- or neither
moves_neither : (told : AccountTold) (number : ℕ) (change : JobTold → JobTold) → ((job : JobTold) → units_reserved (change job) + 0 ≡ units_reserved job + 0) → reserved_told (with_job told number change) + 0 ≡ reserved_told told + 0
moves_neither told number change one = sym (ap (λ (n : ℕ). reserved_told (with_job told number change) + n) (always_none (get told.jobs number))) ∙ moves_back told number change no_units (λ job _. one job)

canceled_back : (now : ℕ) (stage : Stage) → units_held (stage_canceled now stage) + units_taken_back stage ≡ units_held stage + 0
canceled_back now Waits = omega arith
canceled_back now (IsFree device rate units) = omega arith
canceled_back now (Prints device rate units since is_canceled) = omega arith
canceled_back now (HasEnded how count units since at) = omega arith

held_back : (stage : Stage) → units_held (stage_held stage) + units_taken_back stage ≡ units_held stage + 0
held_back Waits = omega arith
held_back (IsFree device rate units) = omega arith
held_back (Prints device rate units since is_canceled) = omega arith
held_back (HasEnded how count units since at) = omega arith

started_on : (device : List ℕ) (now : ℕ) (stage : Stage) → units_held (stage_started device now stage) + 0 ≡ units_held stage + 0
started_on device now Waits = refl
started_on device now (IsFree other rate units) = refl
started_on device now (Prints other rate units since is_canceled) = refl
started_on device now (HasEnded how count units since at) = refl

freed_on : (need : ℕ) (stage : Stage) → units_held (stage_released None 1 need stage) + 0 ≡ units_held stage + cond (is_waiting stage) need 0
freed_on need Waits = omega arith
freed_on need (IsFree device rate units) = refl
freed_on need (Prints device rate units since is_canceled) = refl
freed_on need (HasEnded how count units since at) = refl

released_on : (device : Option (List ℕ)) (rate need : ℕ) (stage : Stage) → IsWaits stage → units_held (stage_released device rate need stage) + 0 ≡ units_held stage + need
released_on device rate need Waits waits = omega arith
released_on device rate need _ waits = absurd waits

settled_back : (count : ℕ) (failed : Bool) (now : ℕ) (stage : Stage) → IsPrinted stage → units_held (stage_settled count failed now stage) + units_held stage ≡ units_held stage + 0
settled_back count failed now (Prints device rate units since is_canceled) prints = omega arith
settled_back count failed now _ prints = absurd prints

none_new : (after before own : ℕ) → after ≡ own + before → own ≡ 0 → after + 0 ≡ before + 0
none_new after before own sum none = omega arith

moves_reserved : (now : ℕ) (told : AccountTold) (deed : Deed) → IsFit told now deed → MovesReserved now told deed
moves_reserved now told (Made ask) fit = none_new _ _ 0 (sum_of_new units_reserved told.jobs told.next (job_made now ask) fit) refl
moves_reserved now told (Brought ask) fit = moves_neither told ask.job (job_brought ask) (λ job. refl)
moves_reserved now told (Canceled number) fit = moves_back told number (job_canceled now) (λ job. units_taken_back job.stage) (λ job _. canceled_back now job.stage)
moves_reserved now told (HeldBack number) fit = moves_back told number job_held (λ job. units_taken_back job.stage) (λ job _. held_back job.stage)
moves_reserved now told (Freed number) fit = moves_on told number job_freed _ (λ job _. freed_on (need_told job.impressions 1 job) job.stage)
moves_reserved now told (Released device number handed_in) fit =
    moves_on told number (job_released device (rate_told told device) handed_in) (need_at told device handed_in)
    (λ job is. released_on (Some device) (rate_told told device) (need_at told device handed_in job) job.stage (subst (λ (j : JobTold). IsWaits j.stage) (same_Some fit.job job (sym fit.is_told ∙ is)) fit.is.0))
moves_reserved now told (Started device number) fit = moves_neither told number (job_started device now) (λ job. started_on device now job.stage)
moves_reserved now told (Settled device number count failed) fit =
    moves_back told number (job_settled count failed now) units_reserved
    (λ job is. settled_back count failed now job.stage (subst (λ (j : JobTold). IsPrinted j.stage) (same_Some fit.job job (sym fit.is_told ∙ is)) fit.is))
moves_reserved now told _ fit = refl

deed_adds : (now : ℕ) (told : AccountTold) (deed : Deed) → IsFit told now deed → Adds now told deed
deed_adds now told (Made ask) fit = record {
  granted = λ month. none_added _ _ refl;
  charged = turned_round _ 0 _ (sum_of_new units_charged told.jobs told.next (job_made now ask) fit);
  within = inl (new_within (reserved_told told) (charged_told told) _ _ 0 0 _ (sum_of_new units_reserved told.jobs told.next (job_made now ask) fit) (sum_of_new units_charged told.jobs told.next (job_made now ask) fit) refl refl);
}
deed_adds now told (Brought ask) fit = eased_adds now told (Brought ask) ask.job (job_brought ask) refl (λ month. refl) refl (λ job _. record { reserved = omega arith; charged = refl })
deed_adds now told (Canceled number) fit = eased_adds now told (Canceled number) number (job_canceled now) refl (λ month. refl) refl (λ job _. let it = canceled_eases now job.stage in record { reserved = it.0; charged = it.1 })
deed_adds now told (HeldBack number) fit = eased_adds now told (HeldBack number) number job_held refl (λ month. refl) refl (λ job _. let it = held_eases job.stage in record { reserved = it.0; charged = it.1 })
deed_adds now told (Freed number) fit = elim (waits_or fit.job.stage) [
  | inl waits ↦ released_adds now told (Freed number) fit (ap (λ (found : Option JobTold). option_map_or (λ (job : JobTold). is_waiting job.stage) found false) fit.is_told ∙ waiting fit.job.stage waits) (λ month. refl) refl
  | inr other ↦ eased_adds now told (Freed number) number job_freed refl (λ month. refl) refl (λ job is.
      let same = stays_so None 1 (need_told job.impressions 1 job) job.stage (ap (λ (j : JobTold). is_waiting j.stage) (same_Some job fit.job (sym is ∙ fit.is_told)) ∙ other) in
      record { reserved = none_less _ _ (ap units_held same); charged = ap units_taken same })
]
  where
    waiting : (stage : Stage) → IsWaits stage → is_waiting stage ≡ true
    waiting Waits is = refl
    waiting _ is = absurd is
deed_adds now told (Released device number handed_in) fit = released_adds now told (Released device number handed_in) fit refl (λ month. refl) refl
deed_adds now told (Started device number) fit = eased_adds now told (Started device number) number (job_started device now) refl (λ month. refl) refl (λ job _. let it = started_eases device now job.stage in record { reserved = it.0; charged = it.1 })
deed_adds now told (Settled device number count failed) fit =
    let then = settled_then now told device number count failed fit in
    record {
      granted = λ month. grants_stay told number (job_settled count failed now) month ∙ none_added _ _ refl;
      charged = then.charged;
      within = inl (overran (reserved_told told) (charged_told told) _ _ (reserved_for told (Settled device number count failed)) (charge_by told (Settled device number count failed)) then.reserved then.charged);
    }
deed_adds now told (Granted month pages) fit = record {
  granted = λ upto. turned_round _ _ _ (sum-insert_new nat_cmp (pages_up_to upto) nat_cmp_total told.grants month pages fit);
  charged = none_added _ _ refl;
  within = inl (quiet_adds (reserved_told told) (charged_told told) _);
}
deed_adds now told _ fit = record { granted = λ month. none_added _ _ refl; charged = none_added _ _ refl; within = inl (quiet_adds (reserved_told told) (charged_told told) _) }

-- ---- the balance

by_month_within : (month : ℕ) (deed : Deed) → pages_by_month month deed ≤ pages_by deed
by_month_within month (Granted from pages) = by (nat_le from month)
  where
    by : (b : Bool) → cond b pages 0 ≤ pages
    by true = omega arith
    by false = omega arith
by_month_within month _ = omega arith

months_within : (month : ℕ) (life : Life) → granted_up_to month life ≤ granted_in life
months_within month [] = omega arith
months_within month (x ∷ life) =
    omega (
      arith,
      sum_by-cons (λ (x : Exchange). pages_by_month month (deed_of x)) x life,
      sum_by-cons (λ (x : Exchange). pages_by (deed_of x)) x life,
      by_month_within month (deed_of x),
      months_within month life,
    )

-- what a deed adds to both sides
still_even : (before after backs back reserves reserve : ℕ) → before + backs ≡ reserves → after + back ≡ before + reserve → after + (backs + back) ≡ reserves + reserve
still_even before after backs back reserves reserve even one = omega arith

more_within : (before after granted overruns pages overrun : ℕ) → before ≤ granted + overruns → after ≤ before + (pages + overrun) → after ≤ granted + pages + (overruns + overrun)
more_within before after granted overruns pages overrun b a = omega arith

month_within : (after month granted overruns pages overrun : ℕ) → month ≤ granted → after ≤ month → after ≤ granted + pages + (overruns + overrun)
month_within after month granted overruns pages overrun b a = omega arith

no_entries : {X : Type 0} → entries (empty {X = X} {R = nat_cmp}) ≡ []
no_entries {X} = nil_from_length (entries (empty {X = X} {R = nat_cmp})) (sym (len-entries (empty {X = X} {R = nat_cmp})) ∙ len-empty nat_cmp X)

none_told : (f : JobTold → ℕ) → sum_of f nothing_told ≡ 0
none_told f = ap (λ (es : List (ℕ × JobTold)). sum_by f (map (λ (e : ℕ × JobTold). e.1) es)) no_entries

balanced_first : IsBalanced []
balanced_first = record {
  granted = λ month. ap (sum_by (pages_up_to month)) no_entries;
  charged = none_told units_charged;
  reserved = let r = none_told units_reserved in omega (arith, r);
  within = let r = none_told units_reserved in let c = none_told units_charged in omega (arith, r, c);
}

balanced_then : (past : Life) (x : Exchange) → IsFit (account_told past) (moment_of x) (deed_of x) → IsBalanced past → IsBalanced (past ++ x ∷ [])
balanced_then past x fit is =
    let told = account_told past in
    let adds = deed_adds (moment_of x) told (deed_of x) fit in
    let more = told_more past x in
    let after = after_exchange told x in
    record {
      granted = λ month.
          ap (λ (after : AccountTold). granted_told after month) more
          ∙ adds.granted month
          ∙ ap (λ (n : ℕ). n + pages_by_month month (deed_of x)) (is.granted month)
          ∙ sym (sum_by_push (λ (x : Exchange). pages_by_month month (deed_of x)) past x);
      charged = ap charged_told more ∙ adds.charged ∙ ap (λ (n : ℕ). n + charge_by told (deed_of x)) is.charged ∙ sym (sum_more charge_by nothing_told past x);
      reserved = ap (λ (after : AccountTold). reserved_told after + given_back_in (past ++ x ∷ [])) more
          ∙ ap (λ (n : ℕ). reserved_told after + n) (sum_more given_back_by nothing_told past x)
          ∙ still_even (reserved_told told) (reserved_told after) (given_back_in past) (given_back_by told (deed_of x)) (reserves_in past) (reserve_by told (deed_of x)) is.reserved (moves_reserved (moment_of x) told (deed_of x) fit)
          ∙ sym (sum_more reserve_by nothing_told past x);
      within = subst (λ (t : AccountTold). reserved_told t + charged_told t ≤ granted_in (past ++ x ∷ []) + overruns_in (past ++ x ∷ [])) (sym more)
          (subst (λ (n : ℕ). reserved_told after + charged_told after ≤ n + overruns_in (past ++ x ∷ [])) (sym (sum_by_push (λ (x : Exchange). pages_by (deed_of x)) past x))
          (subst (λ (n : ℕ). reserved_told after + charged_told after ≤ granted_in past + pages_by (deed_of x) + n) (sym (sum_more overrun_by nothing_told past x))
          (elim adds.within [
            | inl less ↦ more_within (reserved_told told + charged_told told) _ (granted_in past) (overruns_in past) (pages_by (deed_of x)) (overrun_by told (deed_of x)) is.within less
            | inr most ↦ month_within _ (granted_told told (month_at (moment_of x))) (granted_in past) (overruns_in past) (pages_by (deed_of x)) (overrun_by told (deed_of x))
                (subst (λ (n : ℕ). n ≤ granted_in past) (sym (is.granted (month_at (moment_of x)))) (months_within (month_at (moment_of x)) past)) most
          ])));
    }

pub accounts_balance : AccountsBalance
accounts_balance = by_deeds IsBalanced balanced_first balanced_then
