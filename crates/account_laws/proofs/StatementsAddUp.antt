-- A statement adds up, and what closes one month opens the next.
use Rattle.std.proofs.Common.{◌≡◌, ℕ, ℤ, pos, ◌+◌, ◌*◌, ◌+ℤ◌, ◌-ℤ◌, ◌≤◌, nat_le, nat_lt, min, Bool, true, false, cond, List, [], ◌∷◌, ◌++◌, filter, map, Option, Some, None, refl, sym, ap, ◌∙◌, arith, append-nil, append_assoc}
use Rattle.std.proofs.lemmas.Int.{ints}
use Rattle.std.proofs.lemmas.List.Folds.{fold-map}
use Rattle.std.proofs.lemmas.List.Sorted.{sum_by-IsPermutation}
use Rattle.std.proofs.lemmas.List.Sums.{sum_by-cons}
use Rattle.std.specs.Cmp.{nat_cmp_total}
use Rattle.std.specs.FinMap.{FinMap, entries, get, values}
use Rattle.std.specs.List.{sum_by}
use Rattle.std.specs.Ordering.{nat_cmp}
use Rattle.account_laws.proofs.AsTold.{told_more}
use Rattle.account_laws.proofs.FitDeeds.{IsFit, deeds_fit}
use Rattle.account_laws.proofs.JobSums.{changed_sum, same_grants, sum_of, sum_of_new, unchanged_sum}
use Rattle.account_laws.proofs.ListedJobs.{jobs_are_in_order}
use Rattle.account_laws.specs.AccountsTold.{AccountTold, account_told, after_deed, charged_told, granted_told, pages_up_to, rate_told, with_job}
use Rattle.account_laws.specs.Deeds.{Deed, Made, Brought, Canceled, HeldBack, Freed, Released, Started, Settled, Granted, deed_of, moment_of}
use Rattle.account_laws.specs.JobsTold.{JobTold, Stage, Waits, IsFree, Prints, HasEnded, is_over, job_brought, job_canceled, job_freed, job_held, job_made, job_released, job_settled, job_started, stage_canceled, stage_held, stage_released, stage_settled, stage_started, units_charged, units_taken}
use Rattle.account_laws.specs.ListedJobs.{Numbered, ended_jobs, latest_first}
use Rattle.account_laws.specs.PagesTold.{statement_told, whole_job}
use Rattle.account_laws.specs.StagesTold.{ended_told}
use Rattle.account_laws.specs.StatementsAddUp as law
use Rattle.account_laws.specs.StatementsAddUp.{AddsUp, AreNoneBefore, IsNoneBefore, balance_before, charges_shown, ends_before, pages_before, pages_shown}
use Rattle.account_lives.specs.Lives.{IsLife, Life}
use Rattle.account_rules.specs.Devices.{Devices}
use Rattle.account_rules.specs.Limits.{last_moment}
use Rattle.account_rules.specs.Months.{month_at}
use Rattle.account_rules.specs.declared.account.Grant.{Grant}
use Rattle.account_rules.specs.declared.job.Job.{Job}
use Rattle.account_state.proofs.FiniteMaps.{sum-insert_new}
use Rattle.account_state.specs.Grants.{grant_of}
use Rattle.account_state.specs.Rooms.{RoomValue}
use Rattle.page_pages.specs.Movements.{charged_before, charged_since, charged_then, closing, granted_before, granted_then, is_since, is_then, is_within, opening, pages_within}
use Rattle.page_pages.specs.declared.statement.Form.{Form}

-- ---- sums

module _ {X : Type 0} where
  -- of two parts of each
  sum_parts : (h f g : X → ℕ) → ((x : X) → h x ≡ f x + g x) → (xs : List X) → sum_by h xs ≡ sum_by f xs + sum_by g xs
  sum_parts h f g same [] = refl
  sum_parts h f g same (x ∷ xs) = omega (arith, sum_by-cons h x xs, sum_by-cons f x xs, sum_by-cons g x xs, same x, sum_parts h f g same xs)

  sum_alike : (f g : X → ℕ) → ((x : X) → f x ≡ g x) → (xs : List X) → sum_by f xs ≡ sum_by g xs
  sum_alike f g same [] = refl
  sum_alike f g same (x ∷ xs) = omega (arith, sum_by-cons f x xs, sum_by-cons g x xs, same x, sum_alike f g same xs)

  -- of those that pass
  first_of : (f : X → ℕ) (x : X) (xs : List X) (rest : ℕ) (b : Bool) → sum_by f xs ≡ rest → sum_by f (cond b (x ∷ xs) xs) ≡ cond b (f x) 0 + rest
  first_of f x xs rest true same = sum_by-cons f x xs ∙ ap (λ (n : ℕ). f x + n) same
  first_of f x xs rest false same = omega (arith, same)

  sum_passed : (p : X → Bool) (f : X → ℕ) (xs : List X) → sum_by f (filter p xs) ≡ sum_by (λ (x : X). cond (p x) (f x) 0) xs
  sum_passed p f [] = refl
  sum_passed p f (x ∷ xs) =
      first_of f x (filter p xs) (sum_by (λ (x : X). cond (p x) (f x) 0) xs) (p x) (sum_passed p f xs)
      ∙ sym (sum_by-cons (λ (x : X). cond (p x) (f x) 0) x xs)

-- ---- of one grant, and of one job

-- before, and from then on
turned : (at month n : ℕ) → n ≡ cond (nat_lt at month) n 0 + cond (nat_le month at) n 0
turned at month n = grind arith

-- from the first on: within, or later
later_or : (at first last n : ℕ) → first ≤ last → cond (nat_le first at) n 0 ≡ cond (is_within first last at) n 0 + cond (nat_le (last + 1) at) n 0
later_or at first last n within = grind arith

-- up to the last: before the first, or within
earlier_or : (at first last n : ℕ) → first ≤ last → cond (nat_le at last) n 0 ≡ cond (nat_lt at first) n 0 + cond (is_within first last at) n 0
earlier_or at first last n within = grind arith

up_to : (at last n : ℕ) → cond (nat_le at last) n 0 ≡ cond (nat_lt at (last + 1)) n 0
up_to at last n = grind arith

-- none of an earlier month
none_of : (at month n : ℕ) → month ≤ at → cond (nat_lt at month) n 0 ≡ 0
none_of at month n later = grind arith

of_none : (b : Bool) → ◌≡◌ {A = ℕ} (cond b 0 0) 0
of_none b = elim b as (λ (b : Bool). ◌≡◌ {A = ℕ} (cond b 0 0) 0) [ true ↦ refl | false ↦ refl ]

-- ---- what a statement reckons

module _ (told : AccountTold) where
  abbrev moved_since : (month : ℕ) → Numbered → ℕ
  moved_since month it = cond (is_over it.1.stage) (charged_since month (whole_job it)) 0

  -- a job's charge is of an earlier month, or of this or a later one
  of_stage : (month : ℕ) (stage : Stage) → units_taken stage ≡ cond (ends_before month stage) (units_taken stage) 0 + cond (is_over stage) (cond (is_since month (ended_told stage)) (units_taken stage) 0) 0
  of_stage month Waits = refl
  of_stage month (IsFree device rate units) = refl
  of_stage month (Prints device rate units since is_canceled) = refl
  of_stage month (HasEnded how count units since at) = turned (month_at (min at last_moment)) month units

  abbrev jobs : List Numbered
  jobs = entries told.jobs

  values_are : (f : JobTold → ℕ) → sum_by f (values told.jobs) ≡ sum_by (λ (it : Numbered). f it.1) jobs
  values_are f = fold-map (λ (n : ℕ) (job : JobTold). n + f job) (λ (it : Numbered). it.1) 0 jobs

  -- the jobs that ended are all there
  since_is : (month : ℕ) → sum_by (charged_since month) (map whole_job (latest_first told)) ≡ sum_by (moved_since month) jobs
  since_is month =
      fold-map (λ (n : ℕ) (job : Job). n + charged_since month job) whole_job 0 (latest_first told)
      ∙ sum_by-IsPermutation (λ (it : Numbered). charged_since month (whole_job it)) (ended_jobs told) (latest_first told) (jobs_are_in_order told).all_ended
      ∙ sum_passed (λ (it : Numbered). is_over it.1.stage) (λ (it : Numbered). charged_since month (whole_job it)) jobs

  abbrev charges : (month : ℕ) → ℕ
  charges month = sum_by (law.charged_before month) (values told.jobs)

  charged_is : (month : ℕ) → charged_told told ≡ charges month + sum_by (charged_since month) (map whole_job (latest_first told))
  charged_is month =
      let parts = sum_parts (λ (it : Numbered). units_charged it.1) (λ (it : Numbered). law.charged_before month it.1) (moved_since month) (λ it. of_stage month it.1.stage) jobs in
      omega (arith, values_are units_charged, values_are (law.charged_before month), since_is month, parts)

module _ (account : List ℕ) (first last : ℕ) (form : Form) (drawn_up : ℕ) (told : AccountTold) (within : first ≤ last) where
  abbrev grants : List Grant
  grants = map grant_of (entries told.grants)

  abbrev ended : List Job
  ended = map whole_job (latest_first told)

  abbrev pages : (month : ℕ) → ℕ
  pages month = sum_by (pages_before month) (entries told.grants)

  -- ---- the grants

  within_is : sum_by (pages_within first last) grants ≡ sum_by (λ (e : ℕ × ℕ). pages_within first last (grant_of e)) (entries told.grants)
  within_is = fold-map (λ (n : ℕ) (grant : Grant). n + pages_within first last grant) grant_of 0 (entries told.grants)

  granted_is : granted_told told last ≡ pages first + sum_by (pages_within first last) grants
  granted_is =
      let parts = sum_parts (pages_up_to last) (pages_before first) (λ (e : ℕ × ℕ). pages_within first last (grant_of e)) (λ e. earlier_or e.0 first last e.1 within) (entries told.grants) in
      omega (arith, within_is, parts)

  all_is : granted_told told last ≡ pages (last + 1)
  all_is = sum_alike (pages_up_to last) (pages_before (last + 1)) (λ e. up_to e.0 last e.1) (entries told.grants)

  shown_pages : pages_shown (statement_told account first last form drawn_up told) ≡ sum_by (pages_within first last) grants
  shown_pages = sum_passed (λ (grant : Grant). is_within first last grant.month) (λ (grant : Grant). grant.pages) grants

  granted_first : granted_before first (statement_told account first last form drawn_up told) ≡ pages first
  granted_first = omega (arith, granted_is)

  -- ---- the jobs

  of_end : (charged : ℕ) (end : Option ℕ) → cond (is_since first end) charged 0 ≡ cond (is_then first last end) charged 0 + cond (is_since (last + 1) end) charged 0
  of_end charged None = refl
  of_end charged (Some at) = later_or (month_at (min at last_moment)) first last charged within

  shown_charges : charges_shown (statement_told account first last form drawn_up told) ≡ sum_by (λ (job : Job). cond (is_then first last job.standing.ended) job.standing.charged 0) ended
  shown_charges = sum_passed (λ (job : Job). is_then first last job.standing.ended) (λ (job : Job). job.standing.charged) ended

  since_parts : sum_by (charged_since first) ended ≡ charges_shown (statement_told account first last form drawn_up told) + sum_by (charged_since (last + 1)) ended
  since_parts =
      let parts = sum_parts (charged_since first) (λ (job : Job). cond (is_then first last job.standing.ended) job.standing.charged 0) (charged_since (last + 1)) (λ job. of_end job.standing.charged job.standing.ended) ended in
      omega (arith, shown_charges, parts)

  charged_at : (month : ℕ) → charged_before month (statement_told account first last form drawn_up told) ≡ charges told month
  charged_at month = omega (arith, charged_is told month)

  -- ---- the balances

  abbrev balance_of : (granted charged : ℕ) → ℤ
  balance_of granted charged = (pos granted -ℤ pos 0) -ℤ pos charged

  opens : opening (statement_told account first last form drawn_up told) ≡ balance_before first told
  opens = (λ i. balance_of (granted_first i) (charged_at first i)) ∙ no_more (pages first) (charges told first)
    where
      no_more : (granted charged : ℕ) → balance_of granted charged ≡ pos granted -ℤ pos charged
      no_more granted charged = omega (arith, ints)

  closes : closing (statement_told account first last form drawn_up told) ≡ balance_before (last + 1) told
  closes = (λ i. balance_of (all_is i) (charged_at (last + 1) i)) ∙ no_more (pages (last + 1)) (charges told (last + 1))
    where
      no_more : (granted charged : ℕ) → balance_of granted charged ≡ pos granted -ℤ pos charged
      no_more granted charged = omega (arith, ints)

  pages_are : granted_then (statement_told account first last form drawn_up told) ≡ pages_shown (statement_told account first last form drawn_up told)
  pages_are = omega (arith, granted_is, granted_first, shown_pages)

  charges_are : charged_then (statement_told account first last form drawn_up told) ≡ charges_shown (statement_told account first last form drawn_up told)
  charges_are = omega (arith, charged_at first, charged_at (last + 1), charged_is told first, charged_is told (last + 1), since_parts)

  leads : (before after more less out into : ℕ) → after ≡ before + into → less ≡ more + out → pos after -ℤ pos less ≡ ((pos before -ℤ pos more) +ℤ pos into) -ℤ pos out
  leads before after more less out into grown charged = omega (arith, ints, grown, charged)

  pub adds_up : AddsUp (statement_told account first last form drawn_up told) told
  adds_up = record {
    opens = opens;
    closes = closes;
    pages = pages_are;
    charges = charges_are;
    leads = closes
        ∙ leads (pages first) (pages (last + 1)) (charges told first) (charges told (last + 1)) (charges_shown (statement_told account first last form drawn_up told)) (pages_shown (statement_told account first last form drawn_up told))
        (omega (arith, all_is, granted_is, shown_pages))
        (omega (arith, charged_is told first, charged_is told (last + 1), since_parts))
        ∙ (λ i. (sym opens i +ℤ pos (pages_shown (statement_told account first last form drawn_up told))) -ℤ pos (charges_shown (statement_told account first last form drawn_up told)));
  }

pub statements_add_up : law.StatementsAddUp
statements_add_up account first last form drawn_up told within = adds_up account first last form drawn_up told within

-- ---- what is done of later months

module _ (month : ℕ) where
  abbrev of_month : JobTold → ℕ
  of_month job = law.charged_before month job

  job_stays : (told : AccountTold) (number : ℕ) (change : JobTold → JobTold) → ((job : JobTold) → of_month (change job) ≡ of_month job) → sum_of of_month (with_job told number change) ≡ sum_of of_month told
  job_stays told number change same = by (get told.jobs number) refl
    where
      by : (found : Option JobTold) → get told.jobs number ≡ found → sum_of of_month (with_job told number change) ≡ sum_of of_month told
      by None none = unchanged_sum of_month told number change none
      by (Some job) there = omega (arith, changed_sum of_month told number change job there, same job)

  abbrev of_stage_alone : Stage → ℕ
  of_stage_alone stage = cond (ends_before month stage) (units_taken stage) 0

  canceled_stays : (now : ℕ) (stage : Stage) → of_stage_alone (stage_canceled now stage) ≡ of_stage_alone stage
  canceled_stays now Waits = of_none (nat_lt (month_at (min now last_moment)) month)
  canceled_stays now (IsFree device rate units) = of_none (nat_lt (month_at (min now last_moment)) month)
  canceled_stays now (Prints device rate units since is_canceled) = refl
  canceled_stays now (HasEnded how count units since at) = refl

  held_stays : (stage : Stage) → of_stage_alone (stage_held stage) ≡ of_stage_alone stage
  held_stays (IsFree device rate units) = refl
  held_stays _ = refl

  released_stays : (device : Option (List ℕ)) (rate units : ℕ) (stage : Stage) → of_stage_alone (stage_released device rate units stage) ≡ of_stage_alone stage
  released_stays device rate units Waits = refl
  released_stays device rate units (IsFree other more less) = refl
  released_stays device rate units (Prints other more less since is_canceled) = refl
  released_stays device rate units (HasEnded how count more since at) = refl

  started_stays : (device : List ℕ) (now : ℕ) (stage : Stage) → of_stage_alone (stage_started device now stage) ≡ of_stage_alone stage
  started_stays device now Waits = refl
  started_stays device now (IsFree other rate units) = refl
  started_stays device now (Prints other rate units since is_canceled) = refl
  started_stays device now (HasEnded how count units since at) = refl

  settled_stays : (count : ℕ) (failed : Bool) (now : ℕ) → month ≤ month_at (min now last_moment) → (stage : Stage) → of_stage_alone (stage_settled count failed now stage) ≡ of_stage_alone stage
  settled_stays count failed now later Waits = refl
  settled_stays count failed now later (IsFree device rate units) = refl
  settled_stays count failed now later (Prints device rate units since is_canceled) = none_of (month_at (min now last_moment)) month (count * rate) later
  settled_stays count failed now later (HasEnded how more units since at) = refl

  charges_stay : (now : ℕ) (told : AccountTold) (deed : Deed) → IsFit told now deed → IsNoneBefore month now deed → sum_of of_month (after_deed now told deed) ≡ sum_of of_month told
  charges_stay now told (Made ask) fit none = omega (arith, sum_of_new of_month told.jobs told.next (job_made now ask) fit)
  charges_stay now told (Brought ask) fit none = job_stays told ask.job (job_brought ask) (λ job. refl)
  charges_stay now told (Canceled number) fit none = job_stays told number (job_canceled now) (λ job. canceled_stays now job.stage)
  charges_stay now told (HeldBack number) fit none = job_stays told number job_held (λ job. held_stays job.stage)
  charges_stay now told (Freed number) fit none = job_stays told number job_freed (λ job. released_stays _ _ _ job.stage)
  charges_stay now told (Released device number handed_in) fit none = job_stays told number (job_released device (rate_told told device) handed_in) (λ job. released_stays _ _ _ job.stage)
  charges_stay now told (Started device number) fit none = job_stays told number (job_started device now) (λ job. started_stays device now job.stage)
  charges_stay now told (Settled device number count failed) fit none = job_stays told number (job_settled count failed now) (λ job. settled_stays count failed now none job.stage)
  charges_stay now told _ fit none = refl

  abbrev pages_in : FinMap nat_cmp ℕ → ℕ
  pages_in grants = sum_by (pages_before month) (entries grants)

  pages_stay : (now : ℕ) (told : AccountTold) (deed : Deed) → IsFit told now deed → IsNoneBefore month now deed → pages_in (after_deed now told deed).grants ≡ pages_in told.grants
  pages_stay now told (Granted granted pages) fit none =
      omega (arith, sum-insert_new nat_cmp (pages_before month) nat_cmp_total told.grants granted pages fit, none_of granted month pages none)
  pages_stay now told (Brought ask) fit none = ap pages_in (same_grants told ask.job (job_brought ask))
  pages_stay now told (Canceled number) fit none = ap pages_in (same_grants told number (job_canceled now))
  pages_stay now told (HeldBack number) fit none = ap pages_in (same_grants told number job_held)
  pages_stay now told (Freed number) fit none = ap pages_in (same_grants told number job_freed)
  pages_stay now told (Released device number handed_in) fit none = ap pages_in (same_grants told number (job_released device (rate_told told device) handed_in))
  pages_stay now told (Started device number) fit none = ap pages_in (same_grants told number (job_started device now))
  pages_stay now told (Settled device number count failed) fit none = ap pages_in (same_grants told number (job_settled count failed now))
  pages_stay now told _ fit none = refl

  balance_stays : (now : ℕ) (told : AccountTold) (deed : Deed) → IsFit told now deed → IsNoneBefore month now deed → balance_before month (after_deed now told deed) ≡ balance_before month told
  balance_stays now told deed fit none = λ i. pos (pages_stay now told deed fit none i) -ℤ pos (charges_stay now told deed fit none i)

  stays : (life : Life) (room : Option RoomValue) (devices : Devices) → IsLife life room devices → (between past later : Life) → life ≡ past ++ (between ++ later) → AreNoneBefore month between
      → balance_before month (account_told (past ++ between)) ≡ balance_before month (account_told past)
  stays life room devices is [] past later here none = ap (λ (l : Life). balance_before month (account_told l)) (append-nil past)
  stays life room devices is (x ∷ between) past later here none =
      ap (λ (l : Life). balance_before month (account_told l)) (sym (append_assoc past (x ∷ []) between))
      ∙ stays life room devices is between (past ++ x ∷ []) later (here ∙ sym (append_assoc past (x ∷ []) (between ++ later))) none.1
      ∙ ap (balance_before month) (told_more past x)
      ∙ balance_stays (moment_of x) (account_told past) (deed_of x) (deeds_fit life room devices is past (between ++ later) x here) none.0

pub months_join : law.MonthsJoin
months_join account first last behind form other drawn_up later life more room devices within beyond is none =
    closes account first last form drawn_up (account_told life) within
    ∙ sym (stays (last + 1) (life ++ more) room devices is more life [] (ap (λ (l : Life). life ++ l) (sym (append-nil more))) none)
    ∙ sym (opens account (last + 1) behind other later (account_told (life ++ more)) (omega (arith, beyond)))
