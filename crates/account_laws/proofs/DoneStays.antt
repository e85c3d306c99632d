-- What was told as done is done.
use Rattle.std.proofs.Common.{bytes_eq, ◌≡◌, ℕ, ◌+◌, Bool, true, false, cond, ◌==◌, not, List, [], ◌∷◌, ◌++◌, Option, Some, None, option_map, IsSomeAnd, inl, inr, refl, sym, ap, subst, ◌∙◌, append_assoc, append-nil}
use Rattle.std.specs.FinMap.{get}
use Rattle.std.specs.List.{All, fold, list_any}
use Rattle.std.proofs.lemmas.Bool.{and_from, and_parts, eq-eqb, eqb-true, ne_eqb, or_parts, true≢false}
use Rattle.std.proofs.lemmas.List.Sums.{fold-append}
use Rattle.std.proofs.lemmas.List.Elements.{All-cons, All-nil}
use Rattle.std.proofs.lemmas.Option.{none-some}
use Rattle.std.proofs.lemmas.Slice.Eq.{bytes_eq-Decides}
use Rattle.account_asks.specs.Operations.{is_print_job}
use Rattle.account_asks.specs.declared.operation.Operation.{Operation}
use Rattle.account_asks.specs.declared.operation.Operation.TheVariants.{PrintJob}
use Rattle.account_laws.proofs.AsTold.{told_more}
use Rattle.account_laws.proofs.DeedFinds.{CanBeFreed, CanBeHeld, CanBeReleased, CanBeStarted, FindAll, Finds, IsFreeFor, IsPrinted, TakesDocuments, all_find, find_apart, found_at, found_it}
use Rattle.account_laws.proofs.DeedTurns.{next_is, turned, turned_so}
use Rattle.account_laws.proofs.HandedByLeave.{bound, canceled_not_free, held_not_free, released_was, settled_was_free, started_not_free}
use Rattle.account_laws.specs.AccountsTold.{AccountTold, account_told, after_exchange, nothing_told, rate_told}
use Rattle.account_laws.specs.Deeds.{Deed, Made, Brought, Canceled, HeldBack, Freed, Released, Started, Settled, deed_of, moment_of}
use Rattle.account_laws.specs.DoneStays.{CanceledIsNotHandedOut, ClosedTakesNoMore, EndedStays, HeldWaitsForRelease, StaysEnded, brings, closes, frees}
use Rattle.account_laws.specs.HandedByLeave.{given_in}
use Rattle.account_laws.specs.HandedOnce.{hands_out}
use Rattle.account_laws.specs.ItsOwnJob.{is_on}
use Rattle.account_laws.specs.JobsMade.{jobs_made}
use Rattle.account_laws.specs.JobsTold.{JobTold, Stage, Waits, IsFree, Prints, HasEnded, is_left_open, is_over, job_brought, job_canceled, job_freed, job_held, job_made, job_released, job_settled, job_started, stage_canceled, stage_held, stage_released, stage_settled, stage_started}
use Rattle.account_lives.specs.Lives.{Exchange, Life}

-- ---- a job that is there, at a deed

-- the deed is on the job
abbrev pub acts_on : ℕ → Deed → Bool
acts_on q (Brought ask) = q == ask.job
acts_on q (Canceled number) = q == number
acts_on q (HeldBack number) = q == number
acts_on q (Freed number) = q == number
acts_on q (Released device number impressions) = q == number
acts_on q (Started device number) = q == number
acts_on q (Settled device number impressions failed) = q == number
acts_on q _ = false

abbrev IsWaitingJob : JobTold → Type 0
IsWaitingJob job = job.stage ≡ Waits

-- what it finds then
abbrev pub FindsOf : Exchange → Deed → JobTold → Type 0
FindsOf x (Brought ask) job = TakesDocuments job
FindsOf x (Canceled number) job = is_over job.stage ≡ false
FindsOf x (HeldBack number) job = CanBeHeld job.stage
FindsOf x (Freed number) job = CanBeFreed job
FindsOf x (Released device number impressions) job = IsWaitingJob job
FindsOf x (Started device number) job = IsFreeFor device job.stage
FindsOf x (Settled device number impressions failed) job = IsPrinted job.stage
FindsOf x _ job = Unit {0}

-- and what it makes of it
abbrev pub changed : (now : ℕ) (told : AccountTold) → Deed → JobTold → JobTold
changed now told (Brought ask) job = job_brought ask job
changed now told (Canceled number) job = job_canceled now job
changed now told (HeldBack number) job = job_held job
changed now told (Freed number) job = job_freed job
changed now told (Released device number impressions) job = job_released device (rate_told told device) impressions job
changed now told (Started device number) job = job_started device now job
changed now told (Settled device number impressions failed) job = job_settled impressions failed now job
changed now told _ job = job

module _ (now : ℕ) (told : AccountTold) (x : Exchange) (q : ℕ) (job : JobTold) (here : get told.jobs q ≡ Some job) where
  finds_of : (deed : Deed) → acts_on q deed ≡ true → Finds told x deed → FindsOf x deed job
  finds_of (Brought ask) on finds = found_it told q ask.job TakesDocuments job here on finds
  finds_of (Canceled number) on finds = found_it told q number (λ (j : JobTold). is_over j.stage ≡ false) job here on finds
  finds_of (HeldBack number) on finds = found_it told q number (λ (j : JobTold). CanBeHeld j.stage) job here on finds
  finds_of (Freed number) on finds = found_it told q number CanBeFreed job here on finds
  finds_of (Released device number impressions) on finds = let can = found_it told q number (CanBeReleased (given_in x.0.1)) job here on finds in can.waits
  finds_of (Started device number) on finds = let can = found_it told q number (CanBeStarted device number x.1) job here on finds.1 in can.is_free
  finds_of (Settled device number impressions failed) on finds = found_it told q number (λ (j : JobTold). IsPrinted j.stage) job here on finds
  finds_of _ on finds = absurd (true≢false (sym on))

  changes_it : (b : Bool) (change : JobTold → JobTold) → b ≡ true → cond b (option_map change (get told.jobs q)) (get told.jobs q) ≡ Some (change job)
  changes_it b change on = ap (λ (b : Bool). cond b (option_map change (get told.jobs q)) (get told.jobs q)) on ∙ ap (option_map change) here

  pub turned_on : (deed : Deed) → acts_on q deed ≡ true → turned now told q deed ≡ Some (changed now told deed job)
  turned_on (Brought ask) on = changes_it (q == ask.job) (job_brought ask) on
  turned_on (Canceled number) on = changes_it (q == number) (job_canceled now) on
  turned_on (HeldBack number) on = changes_it (q == number) job_held on
  turned_on (Freed number) on = changes_it (q == number) job_freed on
  turned_on (Released device number impressions) on = changes_it (q == number) (job_released device (rate_told told device) impressions) on
  turned_on (Started device number) on = changes_it (q == number) (job_started device now) on
  turned_on (Settled device number impressions failed) on = changes_it (q == number) (job_settled impressions failed now) on
  turned_on _ on = absurd (true≢false (sym on))

  leaves_it : (b : Bool) (change : JobTold → JobTold) → b ≡ false → cond b (option_map change (get told.jobs q)) (get told.jobs q) ≡ Some job
  leaves_it b change isnt = ap (λ (b : Bool). cond b (option_map change (get told.jobs q)) (get told.jobs q)) isnt ∙ here

  not_next : get told.jobs told.next ≡ None → (q == told.next) ≡ false
  not_next none = ne_eqb q told.next (λ same. none-some job (sym none ∙ ap (get told.jobs) (sym same) ∙ here))

  turned_off : (deed : Deed) → acts_on q deed ≡ false → Finds told x deed → turned now told q deed ≡ Some job
  turned_off (Made ask) isnt finds = ap (λ (b : Bool). cond b (Some (job_made now ask)) (get told.jobs q)) (not_next finds) ∙ here
  turned_off (Brought ask) isnt finds = leaves_it (q == ask.job) (job_brought ask) isnt
  turned_off (Canceled number) isnt finds = leaves_it (q == number) (job_canceled now) isnt
  turned_off (HeldBack number) isnt finds = leaves_it (q == number) job_held isnt
  turned_off (Freed number) isnt finds = leaves_it (q == number) job_freed isnt
  turned_off (Released device number impressions) isnt finds = leaves_it (q == number) (job_released device (rate_told told device) impressions) isnt
  turned_off (Started device number) isnt finds = leaves_it (q == number) (job_started device now) isnt
  turned_off (Settled device number impressions failed) isnt finds = leaves_it (q == number) (job_settled impressions failed now) isnt
  turned_off _ isnt finds = here

-- ---- what goes on from an exchange

-- the job is there, and such
pub record Goes (q : ℕ) (Is : JobTold → Type 0) (past : Life) : Type 0 where
  pub job : JobTold
  pub is_there : get (account_told past).jobs q ≡ Some job
  pub is : Is job

-- whatever deed is not one of these
module _ (q : ℕ) (Is : JobTold → Type 0) (ends : Deed → Bool)
    (kept : (now : ℕ) (told : AccountTold) (x : Exchange) (deed : Deed) (job : JobTold) → ends deed ≡ false → acts_on q deed ≡ true → FindsOf x deed job → Is job → Is (changed now told deed job)) where
  abbrev never_ends : Life → Bool
  never_ends later = list_any (λ (x : Exchange). ends (deed_of x)) later

  goes_more : (past : Life) (x : Exchange) → ends (deed_of x) ≡ false → Finds (account_told past) x (deed_of x) → Goes q Is past → Goes q Is (past ++ x ∷ [])
  goes_more past x isnt finds goes = by (acts_on q (deed_of x)) refl
    where
      then : get (account_told (past ++ x ∷ [])).jobs q ≡ turned (moment_of x) (account_told past) q (deed_of x)
      then = ap (λ (told : AccountTold). get told.jobs q) (told_more past x) ∙ turned_so (moment_of x) (account_told past) q (deed_of x)

      by : (b : Bool) → acts_on q (deed_of x) ≡ b → Goes q Is (past ++ x ∷ [])
      by true on = record {
        job = changed (moment_of x) (account_told past) (deed_of x) goes.job;
        is_there = then ∙ turned_on (moment_of x) (account_told past) x q goes.job goes.is_there (deed_of x) on;
        is = kept (moment_of x) (account_told past) x (deed_of x) goes.job isnt on (finds_of (moment_of x) (account_told past) x q goes.job goes.is_there (deed_of x) on finds) goes.is;
      }
      by false off = record {
        job = goes.job;
        is_there = then ∙ turned_off (moment_of x) (account_told past) x q goes.job goes.is_there (deed_of x) off finds;
        is = goes.is;
      }

  pub goes_on : (past later : Life) → never_ends later ≡ false → FindAll (account_told past) later → Goes q Is past → Goes q Is (past ++ later)
  goes_on past [] never all goes = subst (Goes q Is) (sym (append-nil past)) goes
  goes_on past (x ∷ later) never all goes =
      let each = or_parts (ends (deed_of x)) (never_ends later) never in
      subst (Goes q Is) (append_assoc past (x ∷ []) later)
      (goes_on (past ++ x ∷ []) later each.1 (subst (λ (told : AccountTold). FindAll told later) (sym (told_more past x)) all.1) (goes_more past x each.0 all.0 goes))

  -- so each exchange is such
  each_later : (Holds : Exchange → Type 0) → ((past : Life) (x : Exchange) → Goes q Is past → Finds (account_told past) x (deed_of x) → Holds x) → (past later : Life) → never_ends later ≡ false → FindAll (account_told past) later → Goes q Is past → All Holds later
  each_later Holds holds past [] never all goes = All-nil Holds
  each_later Holds holds past (x ∷ later) never all goes =
      let each = or_parts (ends (deed_of x)) (never_ends later) never in
      All-cons Holds x later (holds past x goes all.0)
      (each_later Holds holds (past ++ x ∷ []) later each.1 (subst (λ (told : AccountTold). FindAll told later) (sym (told_more past x)) all.1) (goes_more past x each.0 all.0 goes))

-- where nothing ends it
abbrev nothing : Deed → Bool
nothing deed = false

nothing_ends : (later : Life) → list_any (λ (x : Exchange). nothing (deed_of x)) later ≡ false
nothing_ends [] = refl
nothing_ends (x ∷ later) = nothing_ends later

-- from an exchange on that is on the job
pub goes_from : (q : ℕ) (Is : JobTold → Type 0) (past : Life) (x : Exchange) (job : JobTold) → turned (moment_of x) (account_told past) q (deed_of x) ≡ Some job → Is job → Goes q Is (past ++ x ∷ [])
goes_from q Is past x job there such = record {
  job = job;
  is_there = ap (λ (told : AccountTold). get told.jobs q) (told_more past x) ∙ turned_so (moment_of x) (account_told past) q (deed_of x) ∙ there;
  is = such;
}

-- ---- a job that was canceled

-- a stage from which no device begins to print
abbrev CannotStart : Stage → Type 0
CannotStart (Prints device rate units since is_canceled) = Unit {0}
CannotStart (HasEnded how count units since at) = Unit {0}
CannotStart _ = ⊥

canceled_cannot : (now : ℕ) (stage : Stage) → CannotStart (stage_canceled now stage)
canceled_cannot now Waits = tt
canceled_cannot now (IsFree for rate units) = tt
canceled_cannot now (Prints by rate units since is_canceled) = tt
canceled_cannot now (HasEnded how count units since at) = tt

held_cannot : (stage : Stage) → CannotStart stage → CannotStart (stage_held stage)
held_cannot Waits cannot = absurd cannot
held_cannot (IsFree for rate units) cannot = absurd cannot
held_cannot (Prints by rate units since is_canceled) cannot = tt
held_cannot (HasEnded how count units since at) cannot = tt

released_cannot : (for : Option (List ℕ)) (rate units : ℕ) (stage : Stage) → CannotStart stage → CannotStart (stage_released for rate units stage)
released_cannot for rate units Waits cannot = absurd cannot
released_cannot for rate units (IsFree other at_rate reserved) cannot = absurd cannot
released_cannot for rate units (Prints by at_rate reserved since is_canceled) cannot = tt
released_cannot for rate units (HasEnded how count charged since at) cannot = tt

started_cannot : (device : List ℕ) (now : ℕ) (stage : Stage) → CannotStart stage → CannotStart (stage_started device now stage)
started_cannot device now Waits cannot = absurd cannot
started_cannot device now (IsFree for rate units) cannot = absurd cannot
started_cannot device now (Prints by rate units since is_canceled) cannot = tt
started_cannot device now (HasEnded how count units since at) cannot = tt

settled_cannot : (count : ℕ) (failed : Bool) (now : ℕ) (stage : Stage) → CannotStart stage → CannotStart (stage_settled count failed now stage)
settled_cannot count failed now Waits cannot = absurd cannot
settled_cannot count failed now (IsFree for rate units) cannot = absurd cannot
settled_cannot count failed now (Prints by rate units since is_canceled) cannot = tt
settled_cannot count failed now (HasEnded how counted units since at) cannot = tt

still_cannot : (q now : ℕ) (told : AccountTold) (x : Exchange) (deed : Deed) (job : JobTold) → nothing deed ≡ false → acts_on q deed ≡ true → FindsOf x deed job → CannotStart job.stage → CannotStart (changed now told deed job).stage
still_cannot q now told x (Brought ask) job isnt on finds cannot = cannot
still_cannot q now told x (Canceled number) job isnt on finds cannot = canceled_cannot now job.stage
still_cannot q now told x (HeldBack number) job isnt on finds cannot = held_cannot job.stage cannot
still_cannot q now told x (Freed number) job isnt on finds cannot = released_cannot None _ _ job.stage cannot
still_cannot q now told x (Released device number impressions) job isnt on finds cannot = released_cannot (Some device) _ _ job.stage cannot
still_cannot q now told x (Started device number) job isnt on finds cannot = started_cannot device now job.stage cannot
still_cannot q now told x (Settled device number impressions failed) job isnt on finds cannot = settled_cannot impressions failed now job.stage cannot
still_cannot q now told x _ job isnt on finds cannot = absurd (true≢false (sym on))

cannot_be_free : {A : Type 0} (device : List ℕ) (stage : Stage) → CannotStart stage → IsFreeFor device stage → A
cannot_be_free device Waits cannot free = absurd cannot
cannot_be_free device (IsFree for rate units) cannot free = absurd cannot
cannot_be_free device (Prints by rate units since is_canceled) cannot free = absurd free
cannot_be_free device (HasEnded how count units since at) cannot free = absurd free

not_handed : (q : ℕ) (past : Life) (x : Exchange) (deed : Deed) → Goes q (λ (job : JobTold). CannotStart job.stage) past → Finds (account_told past) x deed → hands_out q deed ≡ false
not_handed q past x (Started device number) goes finds = by (q == number) refl
  where
    by : (b : Bool) → (q == number) ≡ b → b ≡ false
    by true same = cannot_be_free device goes.job.stage goes.is (finds_of 0 (account_told past) x q goes.job goes.is_there (Started device number) same finds)
    by false other = refl
not_handed q past x _ goes finds = refl

-- the job that was canceled
pub record Was (q : ℕ) (told : AccountTold) : Type 0 where
  pub job : JobTold
  pub is_there : get told.jobs q ≡ Some job

pub was_there : (q : ℕ) (told : AccountTold) (Is : JobTold → Type 0) → IsSomeAnd (get told.jobs q) Is → Was q told
was_there q told Is is = by (get told.jobs q) refl is
  where
    by : (o : Option JobTold) → get told.jobs q ≡ o → IsSomeAnd o Is → Was q told
    by None none is = absurd is
    by (Some job) here is = record { job = job; is_there = here }

pub canceled_is_not_handed_out : CanceledIsNotHandedOut
canceled_is_not_handed_out life room devices is past later x q here deed =
    let at = found_at life past later x room devices is here in
    let finds : Finds (account_told past) x (Canceled q) = subst (Finds (account_told past) x) deed at.finds in
    let was = was_there q (account_told past) (λ (job : JobTold). is_over job.stage ≡ false) finds in
    let begins : turned (moment_of x) (account_told past) q (deed_of x) ≡ Some (job_canceled (moment_of x) was.job) = ap (turned (moment_of x) (account_told past) q) deed ∙ turned_on (moment_of x) (account_told past) x q was.job was.is_there (Canceled q) (eq-eqb q q refl) in
    let Is : JobTold → Type 0 = λ job. CannotStart job.stage in
    each_later q Is nothing (still_cannot q) (λ (y : Exchange). hands_out q (deed_of y) ≡ false) (λ past y goes finds. not_handed q past y (deed_of y) goes finds) (past ++ x ∷ []) later (nothing_ends later) at.rest
    (goes_from q Is past x (job_canceled (moment_of x) was.job) begins (canceled_cannot (moment_of x) was.job.stage))

-- ---- a job that was held

abbrev IsKeptFrom : (device : List ℕ) → JobTold → Type 0
IsKeptFrom device job = IsFreeFor device job.stage → ⊥

still_kept : (device : List ℕ) (q now : ℕ) (told : AccountTold) (x : Exchange) (deed : Deed) (job : JobTold) → frees device q deed ≡ false → acts_on q deed ≡ true → FindsOf x deed job → IsKeptFrom device job → IsKeptFrom device (changed now told deed job)
still_kept device q now told x (Brought ask) job isnt on finds kept = kept
still_kept device q now told x (Canceled number) job isnt on finds kept = canceled_not_free device now job.stage
still_kept device q now told x (HeldBack number) job isnt on finds kept = held_not_free device job.stage
still_kept device q now told x (Freed number) job isnt on finds kept = absurd (true≢false (sym on ∙ isnt))
still_kept device q now told x (Released at number impressions) job isnt on finds kept = λ free.
    elim (released_was device (Some at) _ _ job.stage free) [
      | inl was ↦ kept was
      | inr new ↦ true≢false (sym (and_from (q == number) (bytes_eq at device) on ((bytes_eq-Decides at device).1 (bound at device new.1))) ∙ isnt)
    ]
still_kept device q now told x (Started at number) job isnt on finds kept = started_not_free device at now job.stage
still_kept device q now told x (Settled at number impressions failed) job isnt on finds kept = λ free. kept (settled_was_free device impressions failed now job.stage free)
still_kept device q now told x _ job isnt on finds kept = absurd (true≢false (sym on))

pub held_waits_for_release : HeldWaitsForRelease
held_waits_for_release life room devices is past between later hold start device q here deed starts =
    by (list_any (λ (x : Exchange). frees device q (deed_of x)) between) refl
  where
    by : (b : Bool) → list_any (λ (x : Exchange). frees device q (deed_of x)) between ≡ b → b ≡ true
    by true released = refl
    by false never =
        let at = found_at life past (between ++ start ∷ later) hold room devices is here in
        let finds : Finds (account_told past) hold (HeldBack q) = subst (Finds (account_told past) hold) deed at.finds in
        let was = was_there q (account_told past) (λ (job : JobTold). CanBeHeld job.stage) finds in
        let begins : turned (moment_of hold) (account_told past) q (deed_of hold) ≡ Some (job_held was.job) = ap (turned (moment_of hold) (account_told past) q) deed ∙ turned_on (moment_of hold) (account_told past) hold q was.job was.is_there (HeldBack q) (eq-eqb q q refl) in
        let rest = find_apart (account_told (past ++ hold ∷ [])) between (start ∷ later) at.rest in
        let goes = goes_on q (IsKeptFrom device) (frees device q) (still_kept device q) (past ++ hold ∷ []) between never rest.0 (goes_from q (IsKeptFrom device) past hold (job_held was.job) begins (held_not_free device was.job.stage)) in
        let told = account_told ((past ++ hold ∷ []) ++ between) in
        let found : Finds told start (Started device q) = subst (λ (t : AccountTold). Finds t start (Started device q)) (sym (fold-append after_exchange nothing_told (past ++ hold ∷ []) between)) (subst (Finds (fold after_exchange (account_told (past ++ hold ∷ [])) between) start) starts rest.1.0) in
        absurd (goes.is (finds_of 0 told start q goes.job goes.is_there (Started device q) (eq-eqb q q refl) found))

-- ---- a job that was closed

still_closed : (q now : ℕ) (told : AccountTold) (x : Exchange) (deed : Deed) (job : JobTold) → nothing deed ≡ false → acts_on q deed ≡ true → FindsOf x deed job → job.is_open ≡ false → (changed now told deed job).is_open ≡ false
still_closed q now told x (Brought ask) job isnt on finds closed = absurd (true≢false (sym finds.is_open ∙ closed))
still_closed q now told x (Canceled number) job isnt on finds closed = closed
still_closed q now told x (HeldBack number) job isnt on finds closed = closed
still_closed q now told x (Freed number) job isnt on finds closed = closed
still_closed q now told x (Released device number impressions) job isnt on finds closed = closed
still_closed q now told x (Started device number) job isnt on finds closed = closed
still_closed q now told x (Settled device number impressions failed) job isnt on finds closed = closed
still_closed q now told x _ job isnt on finds closed = absurd (true≢false (sym on))

not_brought : (q : ℕ) (past : Life) (x : Exchange) (deed : Deed) → Goes q (λ (job : JobTold). job.is_open ≡ false) past → Finds (account_told past) x deed → brings q deed ≡ false
not_brought q past x (Brought ask) goes finds = by (q == ask.job) refl
  where
    by : (b : Bool) → (q == ask.job) ≡ b → b ≡ false
    by true same = absurd (true≢false (sym (finds_of 0 (account_told past) x q goes.job goes.is_there (Brought ask) same finds).is_open ∙ goes.is))
    by false other = refl
not_brought q past x _ goes finds = refl

print_job_closes : (operation : Operation) → is_print_job operation ≡ true → is_left_open operation ≡ false
print_job_closes PrintJob is = refl
print_job_closes _ is = absurd (true≢false (sym is))

record IsClosedBy (q now : ℕ) (told : AccountTold) (deed : Deed) : Type 0 where
  pub job : JobTold
  pub is_there : turned now told q deed ≡ Some job
  pub is_closed : job.is_open ≡ false

closed_by : (q now made : ℕ) (told : AccountTold) (x : Exchange) (deed : Deed) → told.next ≡ made + 1 → closes q made deed ≡ true → Finds told x deed → IsClosedBy q now told deed
closed_by q now made told x (Made ask) next closing finds =
    let both = and_parts (q == made + 1) (is_print_job ask.operation) closing in
    record {
      job = job_made now ask;
      is_there = ap (λ (b : Bool). cond b (Some (job_made now ask)) (get told.jobs q)) (ap (λ (n : ℕ). q == n) next ∙ both.0);
      is_closed = print_job_closes ask.operation both.1;
    }
closed_by q now made told x (Brought ask) next closing finds =
    let both = and_parts (q == ask.job) ask.last closing in
    let was = was_there q told TakesDocuments (subst (λ (n : ℕ). IsSomeAnd (get told.jobs n) TakesDocuments) (sym (eqb-true q ask.job both.0)) finds) in
    record {
      job = job_brought ask was.job;
      is_there = turned_on now told x q was.job was.is_there (Brought ask) both.0;
      is_closed = ap not both.1;
    }
closed_by q now made told x _ next closing finds = absurd (true≢false (sym closing))

pub closed_takes_no_more : ClosedTakesNoMore
closed_takes_no_more life room devices is past later x q here closing =
    let at = found_at life past later x room devices is here in
    let closed = closed_by q (moment_of x) (jobs_made past) (account_told past) x (deed_of x) (next_is past) closing at.finds in
    let Is : JobTold → Type 0 = λ job. job.is_open ≡ false in
    each_later q Is nothing (still_closed q) (λ (y : Exchange). brings q (deed_of y) ≡ false) (λ past y goes finds. not_brought q past y (deed_of y) goes finds) (past ++ x ∷ []) later (nothing_ends later) at.rest
    (goes_from q Is past x closed.job closed.is_there closed.is_closed)

-- ---- a job that has ended

held_goes_on : (stage : Stage) → CanBeHeld stage → is_over stage ≡ false
held_goes_on (HasEnded how count units since at) can = absurd can
held_goes_on _ can = refl

free_goes_on : (device : List ℕ) (stage : Stage) → IsFreeFor device stage → is_over stage ≡ false
free_goes_on device (HasEnded how count units since at) free = absurd free
free_goes_on device _ free = refl

printed_goes_on : (stage : Stage) → IsPrinted stage → is_over stage ≡ false
printed_goes_on (HasEnded how count units since at) printed = absurd printed
printed_goes_on _ printed = refl

over_is_not : {A : Type 0} (x : Exchange) (q : ℕ) (deed : Deed) (job : JobTold) → is_over job.stage ≡ true → acts_on q deed ≡ true → FindsOf x deed job → A
over_is_not x q (Brought ask) job over on finds = absurd (true≢false (sym over ∙ ap is_over finds.waits))
over_is_not x q (Canceled number) job over on finds = absurd (true≢false (sym over ∙ finds))
over_is_not x q (HeldBack number) job over on finds = absurd (true≢false (sym over ∙ held_goes_on job.stage finds))
over_is_not x q (Freed number) job over on finds = absurd (true≢false (sym over ∙ finds.goes_on))
over_is_not x q (Released device number impressions) job over on finds = absurd (true≢false (sym over ∙ ap is_over finds))
over_is_not x q (Started device number) job over on finds = absurd (true≢false (sym over ∙ free_goes_on device job.stage finds))
over_is_not x q (Settled device number impressions failed) job over on finds = absurd (true≢false (sym over ∙ printed_goes_on job.stage finds))
over_is_not x q _ job over on finds = absurd (true≢false (sym on))

module _ (q : ℕ) (job : JobTold) (over : is_over job.stage ≡ true) where
  abbrev IsIt : JobTold → Type 0
  IsIt other = other ≡ job

  still_it : (now : ℕ) (told : AccountTold) (x : Exchange) (deed : Deed) (other : JobTold) → nothing deed ≡ false → acts_on q deed ≡ true → FindsOf x deed other → IsIt other → IsIt (changed now told deed other)
  still_it now told x deed other isnt on finds same = over_is_not x q deed other (ap (λ (j : JobTold). is_over j.stage) same ∙ over) on finds

  off : (past : Life) (x : Exchange) (deed : Deed) → Goes q IsIt past → Finds (account_told past) x deed → (b : Bool) → acts_on q deed ≡ b → b ≡ false
  off past x deed goes finds true on = over_is_not x q deed goes.job (ap (λ (j : JobTold). is_over j.stage) goes.is ∙ over) on (finds_of 0 (account_told past) x q goes.job goes.is_there deed on finds)
  off past x deed goes finds false isnt = refl

  not_on : (past : Life) (x : Exchange) (deed : Deed) → Goes q IsIt past → Finds (account_told past) x deed → is_on q (jobs_made past) deed ≡ false
  not_on past x (Made ask) goes finds = ap (λ (n : ℕ). q == n) (sym (next_is past)) ∙ not_next 0 (account_told past) x q goes.job goes.is_there finds
  not_on past x (Brought ask) goes finds = off past x (Brought ask) goes finds (q == ask.job) refl
  not_on past x (Canceled number) goes finds = off past x (Canceled number) goes finds (q == number) refl
  not_on past x (HeldBack number) goes finds = off past x (HeldBack number) goes finds (q == number) refl
  not_on past x (Freed number) goes finds = off past x (Freed number) goes finds (q == number) refl
  not_on past x (Released device number impressions) goes finds = off past x (Released device number impressions) goes finds (q == number) refl
  not_on past x (Started device number) goes finds = off past x (Started device number) goes finds (q == number) refl
  not_on past x (Settled device number impressions failed) goes finds = off past x (Settled device number impressions failed) goes finds (q == number) refl
  not_on past x _ goes finds = refl

  pub it_stays : (past later : Life) → Goes q IsIt past → FindAll (account_told past) later → StaysEnded q job past later
  it_stays past later goes all = record {
    same = let then = goes_on q IsIt nothing still_it past later (nothing_ends later) all goes in then.is_there ∙ ap Some then.is;
    untouched = λ before after x here.
        let parts = find_apart (account_told past) before (x ∷ after) (subst (FindAll (account_told past)) here all) in
        let then = goes_on q IsIt nothing still_it past before (nothing_ends before) parts.0 goes in
        not_on (past ++ before) x (deed_of x) then (subst (λ (t : AccountTold). Finds t x (deed_of x)) (sym (fold-append after_exchange nothing_told past before)) parts.1.0);
  }

pub ended_stays : EndedStays
ended_stays life room devices is past later q job here there over =
    let all = find_apart nothing_told past later (subst (FindAll nothing_told) here (all_find life room devices is)) in
    it_stays q job over past later (record { job = job; is_there = there; is = refl }) all.1
