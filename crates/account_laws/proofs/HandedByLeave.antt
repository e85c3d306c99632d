-- What was told of a job, by the life: who made it, what was sent for it, and by whose leave it is free.
use Rattle.std.proofs.Common.{◌≡◌, ◌⊎◌, ℕ, ◌+◌, Bool, true, false, cond, ◌==◌, List, [], ◌∷◌, ◌++◌, map, Option, Some, None, option_map, IsSomeAnd, inl, inr, refl, sym, ap, subst, ◌∙◌, append_assoc, append-nil}
use Rattle.std.specs.FinMap.{get, get-empty}
use Rattle.std.specs.List.{flat_map}
use Rattle.std.specs.Ordering.{nat_cmp}
use Rattle.std.proofs.lemmas.Bool.{eqb-true, true≢false}
use Rattle.std.proofs.lemmas.Grind.{flat_map-append}
use Rattle.std.proofs.lemmas.List.Elements.{All-nil, All-push}
use Rattle.std.proofs.lemmas.Option.{none-some, same_Some}
use Rattle.account_asks.specs.Asks.{PlainAsk}
use Rattle.account_machine.specs.Events.{OfAccount, Start}
use Rattle.account_machine.specs.declared.event.Reply.{Reply}
use Rattle.account_machine.specs.declared.event.Reply.TheVariants as reply
use Rattle.account_laws.proofs.AsTold.{told_more}
use Rattle.account_laws.proofs.DeedFinds.{CanBeFreed, CanBeReleased, CanBeStarted, FindAll, Finds, IsFreeFor, TakesDocuments, found_at, found_it, grows_to}
use Rattle.account_laws.proofs.DeedTurns.{next_is, others_same, turned, turned_so}
use Rattle.account_laws.specs.AccountsTold.{AccountTold, account_told, after_deed, nothing_told, rate_told}
use Rattle.account_laws.specs.Deeds.{Deed, Made, Brought, Canceled, HeldBack, Freed, Released, Started, Settled, deed_of, moment_of}
use Rattle.account_laws.specs.HandedAsSent as sent
use Rattle.account_laws.specs.HandedAsSent.{brought_to, sent_for}
use Rattle.account_laws.specs.HandedByLeave as leave
use Rattle.account_laws.specs.HandedByLeave.{GivesLeave, HasLeave, given_in, takes_back}
use Rattle.account_laws.specs.ItsOwnJob.{is_on}
use Rattle.account_laws.specs.JobsMade.{IsMadeBy, jobs_made}
use Rattle.account_laws.specs.JobsTold.{JobTold, Sent, Stage, Waits, IsFree, Prints, HasEnded, brought_first, brought_next, job_brought, job_canceled, job_freed, job_held, job_made, job_released, job_settled, job_started, stage_canceled, stage_held, stage_released, stage_settled, stage_started}
use Rattle.account_lives.specs.Lives.{Exchange, Life}
use Rattle.account_laws.specs.StationAnswers.{part_told}

-- ---- an exchange more

made_still : (number : ℕ) (ask : PlainAsk) (past : Life) (x : Exchange) → IsMadeBy number ask past → IsMadeBy number ask (past ++ x ∷ [])
made_still number ask past x made = record {
  before = made.before;
  making = made.making;
  behind = made.behind ++ x ∷ [];
  are_these = ap (λ (life : Life). life ++ x ∷ []) made.are_these ∙ append_assoc made.before (made.making ∷ made.behind) (x ∷ []);
  makes = made.makes;
  numbered = made.numbered;
}

leave_still : (device : List ℕ) (number : ℕ) (past : Life) (x : Exchange) → takes_back number (deed_of x) ≡ false → HasLeave device number past → HasLeave device number (past ++ x ∷ [])
leave_still device number past x isnt has = record {
  before = has.before;
  release = has.release;
  since = has.since ++ x ∷ [];
  are_these = ap (λ (life : Life). life ++ x ∷ []) has.are_these ∙ append_assoc has.before (has.release ∷ has.since) (x ∷ []);
  maker = has.maker;
  made = has.made;
  waited = has.waited;
  gives = has.gives;
  stays = All-push (λ (y : Exchange). takes_back number (deed_of y) ≡ false) has.since x has.stays isnt;
}

-- what Send-Documents brought for a number
abbrev brought_in : ℕ → Life → List Sent
brought_in number life = flat_map (λ (x : Exchange). brought_to number (deed_of x)) life

brought_more : (number : ℕ) (past : Life) (x : Exchange) → brought_in number (past ++ x ∷ []) ≡ brought_in number past ++ brought_to number (deed_of x)
brought_more number past x = flat_map-append (λ (y : Exchange). brought_to number (deed_of y)) past (x ∷ []) ∙ ap (λ (l : List Sent). brought_in number past ++ l) (append-nil (brought_to number (deed_of x)))

-- ---- what holds of each job that was told

pub record IsByItsMaker (number : ℕ) (job : JobTold) (past : Life) : Type 0 where
  pub made : IsMadeBy number job.maker past
  pub sent : job.documents ≡ sent_for number job.maker past
  pub leave : (device : List ℕ) → IsFreeFor device job.stage → HasLeave device number past

abbrev JobIsByItsMaker : ℕ → Option JobTold → Life → Type 0
JobIsByItsMaker number None past = brought_in number past ≡ []
JobIsByItsMaker number (Some job) past = IsByItsMaker number job past

-- a deed that is not on the job leaves it so
not_brought : (number made : ℕ) (deed : Deed) → is_on number made deed ≡ false → brought_to number deed ≡ []
not_brought number made (Brought ask) isnt = ap (λ (b : Bool). cond b (brought_next ask) []) isnt
not_brought number made _ isnt = refl

not_taken_back : (number made : ℕ) (deed : Deed) → is_on number made deed ≡ false → takes_back number deed ≡ false
not_taken_back number made (Canceled job) isnt = isnt
not_taken_back number made (HeldBack job) isnt = isnt
not_taken_back number made _ isnt = refl

module _ (number : ℕ) (past : Life) (x : Exchange) where
  abbrev more : Life
  more = past ++ x ∷ []

  -- the job is the one that it was, but that it may stand otherwise
  same_job : (was is : JobTold) → is.maker ≡ was.maker → is.documents ≡ was.documents → brought_to number (deed_of x) ≡ [] → IsByItsMaker number was past → ((device : List ℕ) → IsFreeFor device is.stage → HasLeave device number more)
      → IsByItsMaker number is more
  same_job was is maker documents none by leave = record {
    made = subst (λ (ask : PlainAsk). IsMadeBy number ask more) (sym maker) (made_still number was.maker past x by.made);
    sent =
        documents
        ∙ by.sent
        ∙ sym (ap (λ (l : List Sent). brought_first was.maker was.maker.operation ++ l) (brought_more number past x ∙ ap (λ (l : List Sent). brought_in number past ++ l) none ∙ append-nil (brought_in number past)))
        ∙ ap (λ (ask : PlainAsk). sent_for number ask more) (sym maker);
    leave = leave;
  }

  stays_so : (o : Option JobTold) → brought_to number (deed_of x) ≡ [] → takes_back number (deed_of x) ≡ false → JobIsByItsMaker number o past → JobIsByItsMaker number o more
  stays_so None none isnt by = brought_more number past x ∙ ap (λ (l : List Sent). brought_in number past ++ l) none ∙ append-nil (brought_in number past) ∙ by
  stays_so (Some job) none isnt by = same_job job job refl refl none by (λ device free. leave_still device number past x isnt (by.leave device free))

  -- an act on the job, which brings no document
  acted : (change : JobTold → JobTold) → ((job : JobTold) → (change job).maker ≡ job.maker) → ((job : JobTold) → (change job).documents ≡ job.documents) → brought_to number (deed_of x) ≡ [] → (o : Option JobTold) → JobIsByItsMaker number o past
      → ((job : JobTold) → o ≡ Some job → IsByItsMaker number job past → (device : List ℕ) → IsFreeFor device (change job).stage → HasLeave device number more)
      → JobIsByItsMaker number (option_map change o) more
  acted change maker documents none None by leave = brought_more number past x ∙ ap (λ (l : List Sent). brought_in number past ++ l) none ∙ append-nil (brought_in number past) ∙ by
  acted change maker documents none (Some job) by leave = same_job job (change job) (maker job) (documents job) none by (leave job refl by)

-- ---- stages

pub canceled_not_free : {A : Type 0} (device : List ℕ) (now : ℕ) (stage : Stage) → IsFreeFor device (stage_canceled now stage) → A
canceled_not_free device now Waits free = absurd free
canceled_not_free device now (IsFree for rate units) free = absurd free
canceled_not_free device now (Prints by rate units since is_canceled) free = absurd free
canceled_not_free device now (HasEnded how count units since at) free = absurd free

pub held_not_free : {A : Type 0} (device : List ℕ) (stage : Stage) → IsFreeFor device (stage_held stage) → A
held_not_free device Waits free = absurd free
held_not_free device (IsFree for rate units) free = absurd free
held_not_free device (Prints by rate units since is_canceled) free = absurd free
held_not_free device (HasEnded how count units since at) free = absurd free

pub started_not_free : {A : Type 0} (device by : List ℕ) (now : ℕ) (stage : Stage) → IsFreeFor device (stage_started by now stage) → A
started_not_free device by now Waits free = absurd free
started_not_free device by now (IsFree for rate units) free = absurd free
started_not_free device by now (Prints other rate units since is_canceled) free = absurd free
started_not_free device by now (HasEnded how count units since at) free = absurd free

pub settled_was_free : (device : List ℕ) (count : ℕ) (failed : Bool) (now : ℕ) (stage : Stage) → IsFreeFor device (stage_settled count failed now stage) → IsFreeFor device stage
settled_was_free device count failed now (IsFree for rate units) free = free
settled_was_free device count failed now _ free = absurd free

-- one that is released was so before, or it waited
pub released_was : (device : List ℕ) (for : Option (List ℕ)) (rate units : ℕ) (stage : Stage) → IsFreeFor device (stage_released for rate units stage) → IsFreeFor device stage ⊎ ((stage ≡ Waits) × ((for ≡ None) ⊎ (for ≡ Some device)))
released_was device for rate units Waits free = inr (refl, free)
released_was device for rate units (IsFree other at_rate reserved) free = inl free
released_was device for rate units (Prints by at_rate reserved since is_canceled) free = absurd free
released_was device for rate units (HasEnded how count charged since at) free = absurd free

-- what is released at a device is free for that one alone
pub bound : (at device : List ℕ) → (Some at ≡ None) ⊎ (Some at ≡ Some device) → at ≡ device
bound at device (inl none) = absurd (none-some at (sym none))
bound at device (inr same) = same_Some at device same

-- ---- each deed

module _ (past : Life) (x : Exchange) (number : ℕ) where
  abbrev told : AccountTold
  told = account_told past

  abbrev there : Option JobTold
  there = get told.jobs number

  abbrev after : Life
  after = past ++ x ∷ []

  -- a release that found the job waiting
  new_leave : (device : List ℕ) (job : JobTold) → there ≡ Some job → IsByItsMaker number job past → job.stage ≡ Waits → GivesLeave device number job.maker.password (given_in x.0.1) (deed_of x) → HasLeave device number after
  new_leave device job here by waits gives = record {
    before = past;
    release = x;
    since = [];
    are_these = refl;
    maker = job.maker;
    made = by.made;
    waited = subst (λ (o : Option JobTold). IsSomeAnd o (λ (j : JobTold). j.stage ≡ Waits)) (sym here) waits;
    gives = gives;
    stays = All-nil (λ (y : Exchange). takes_back number (deed_of y) ≡ false);
  }

  -- where the deed is on the job
  on_it : (deed : Deed) → deed_of x ≡ deed → Finds told x deed → is_on number (jobs_made past) deed ≡ true → JobIsByItsMaker number there past → JobIsByItsMaker number (turned (moment_of x) told number deed) after
  on_it (Made ask) is finds on by =
      let numbered = eqb-true number (jobs_made past + 1) on in
      let none : there ≡ None = ap (get told.jobs) (numbered ∙ sym (next_is past)) ∙ finds in
      let unsent : brought_in number past ≡ [] = subst (λ (o : Option JobTold). JobIsByItsMaker number o past) none by in
      subst (λ (b : Bool). JobIsByItsMaker number (cond b (Some (job_made (moment_of x) ask)) there) after) (sym (ap (λ (n : ℕ). number == n) (next_is past) ∙ on))
      (record {
        made = record { before = past; making = x; behind = []; are_these = refl; makes = is; numbered = numbered };
        sent =
            sym (append-nil (brought_first ask ask.operation))
            ∙ ap (λ (l : List Sent). brought_first ask ask.operation ++ l) (sym (brought_more number past x ∙ (λ i. unsent i ++ brought_to number (is i))));
        leave = λ device free. absurd free;
      })
  on_it (Brought ask) is finds on by =
      subst (λ (b : Bool). JobIsByItsMaker number (cond b (option_map (job_brought ask) there) there) after) (sym on)
      (brought there refl by)
    where
      brings : brought_to number (deed_of x) ≡ brought_next ask
      brings = ap (brought_to number) is ∙ ap (λ (b : Bool). cond b (brought_next ask) []) on

      brought : (o : Option JobTold) → there ≡ o → JobIsByItsMaker number o past → JobIsByItsMaker number (option_map (job_brought ask) o) after
      brought None none by = absurd (subst (λ (o : Option JobTold). IsSomeAnd o TakesDocuments) (ap (get told.jobs) (sym (eqb-true number ask.job on)) ∙ none) finds)
      brought (Some job) here by =
          let takes = found_it told number ask.job TakesDocuments job here on finds in
          record {
            made = made_still number job.maker past x by.made;
            sent =
                ap (λ (l : List Sent). l ++ brought_next ask) by.sent
                ∙ append_assoc (brought_first job.maker job.maker.operation) (brought_in number past) (brought_next ask)
                ∙ ap (λ (l : List Sent). brought_first job.maker job.maker.operation ++ l) (sym (brought_more number past x ∙ ap (λ (l : List Sent). brought_in number past ++ l) brings));
            leave = λ device free. absurd (subst (IsFreeFor device) takes.waits free);
          }
  on_it (Canceled q) is finds on by =
      subst (λ (b : Bool). JobIsByItsMaker number (cond b (option_map (job_canceled (moment_of x)) there) there) after) (sym on)
      (acted number past x (job_canceled (moment_of x)) (λ job. refl) (λ job. refl) (ap (brought_to number) is) there by (λ job here its device free. canceled_not_free device (moment_of x) job.stage free))
  on_it (HeldBack q) is finds on by =
      subst (λ (b : Bool). JobIsByItsMaker number (cond b (option_map job_held there) there) after) (sym on)
      (acted number past x job_held (λ job. refl) (λ job. refl) (ap (brought_to number) is) there by (λ job here its device free. held_not_free device job.stage free))
  on_it (Freed q) is finds on by =
      subst (λ (b : Bool). JobIsByItsMaker number (cond b (option_map job_freed there) there) after) (sym on)
      (acted number past x job_freed (λ job. refl) (λ job. refl) (ap (brought_to number) is) there by (λ job here its device free.
      elim (released_was device None _ _ job.stage free) [
        | inl was ↦ leave_still device number past x (ap (takes_back number) is) (its.leave device was)
        | inr new ↦ new_leave device job here its new.0 (subst (GivesLeave device number job.maker.password (given_in x.0.1)) (sym is) (sym (eqb-true number q on), (found_it told number q CanBeFreed job here on finds).no_password new.0))
      ]))
  on_it (Released at q impressions) is finds on by =
      subst (λ (b : Bool). JobIsByItsMaker number (cond b (option_map (job_released at (rate_told told at) impressions) there) there) after) (sym on)
      (acted number past x (job_released at (rate_told told at) impressions) (λ job. refl) (λ job. refl) (ap (brought_to number) is) there by (λ job here its device free.
      elim (released_was device (Some at) _ _ job.stage free) [
        | inl was ↦ leave_still device number past x (ap (takes_back number) is) (its.leave device was)
        | inr new ↦ new_leave device job here its new.0 (subst (GivesLeave device number job.maker.password (given_in x.0.1)) (sym is)
            (bound at device new.1, sym (eqb-true number q on), (found_it told number q (CanBeReleased (given_in x.0.1)) job here on finds).password_met))
      ]))
  on_it (Started at q) is finds on by =
      subst (λ (b : Bool). JobIsByItsMaker number (cond b (option_map (job_started at (moment_of x)) there) there) after) (sym on)
      (acted number past x (job_started at (moment_of x)) (λ job. refl) (λ job. refl) (ap (brought_to number) is) there by (λ job here its device free. started_not_free device at (moment_of x) job.stage free))
  on_it (Settled at q impressions failed) is finds on by =
      subst (λ (b : Bool). JobIsByItsMaker number (cond b (option_map (job_settled impressions failed (moment_of x)) there) there) after) (sym on)
      (acted number past x (job_settled impressions failed (moment_of x)) (λ job. refl) (λ job. refl) (ap (brought_to number) is) there by
      (λ job here its device free. leave_still device number past x (ap (takes_back number) is) (its.leave device (settled_was_free device impressions failed (moment_of x) job.stage free))))
  on_it _ is finds on by = absurd (true≢false (sym on))

  -- and where it is on another
  more_on : (b : Bool) → is_on number (jobs_made past) (deed_of x) ≡ b → Finds told x (deed_of x) → JobIsByItsMaker number there past → JobIsByItsMaker number (get (after_deed (moment_of x) told (deed_of x)).jobs number) after
  more_on true on finds by = subst (λ (o : Option JobTold). JobIsByItsMaker number o after) (sym (turned_so (moment_of x) told number (deed_of x))) (on_it (deed_of x) refl finds on by)
  more_on false isnt finds by =
      subst (λ (o : Option JobTold). JobIsByItsMaker number o after) (sym (others_same (moment_of x) told (jobs_made past) number (deed_of x) (next_is past) isnt))
      (stays_so number past x there (not_brought number (jobs_made past) (deed_of x) isnt) (not_taken_back number (jobs_made past) (deed_of x) isnt) by)

-- ---- over a life

abbrev pub AreByTheirMakers : Life → Type 0
AreByTheirMakers past = (number : ℕ) → JobIsByItsMaker number (get (account_told past).jobs number) past

by_makers_more : (past : Life) (x : Exchange) → Finds (account_told past) x (deed_of x) → AreByTheirMakers past → AreByTheirMakers (past ++ x ∷ [])
by_makers_more past x finds by number =
    subst (λ (told : AccountTold). JobIsByItsMaker number (get told.jobs number) (past ++ x ∷ [])) (sym (told_more past x))
    (more_on past x number (is_on number (jobs_made past) (deed_of x)) refl finds (by number))

by_makers_first : AreByTheirMakers []
by_makers_first number = subst (λ (o : Option JobTold). JobIsByItsMaker number o []) (sym (get-empty nat_cmp number)) refl

pub by_makers : (past : Life) → FindAll nothing_told past → AreByTheirMakers past
by_makers past all = grows_to AreByTheirMakers by_makers_more by_makers_first past all

-- ---- the laws

-- a job that is started
pub record IsStartedJob (device : List ℕ) (number : ℕ) (said : Reply) (past : Life) : Type 0 where
  pub job : JobTold
  pub can : CanBeStarted device number said job
  pub by : IsByItsMaker number job past

started_job : (device : List ℕ) (number : ℕ) (said : Reply) (past : Life) (o : Option JobTold) → IsSomeAnd o (CanBeStarted device number said) → JobIsByItsMaker number o past → IsStartedJob device number said past
started_job device number said past None can by = absurd can
started_job device number said past (Some job) can by = record { job = job; can = can; by = by }

pub handed_by_leave : leave.HandedByLeave
handed_by_leave life room devices is past later x device number here starts =
    let at = found_at life past later x room devices is here in
    let finds : Finds (account_told past) x (Started device number) = subst (Finds (account_told past) x) starts at.finds in
    let job = started_job device number x.1 past (get (account_told past).jobs number) finds.1 (by_makers past at.first number) in
    (job.by.leave device job.can.is_free, finds.0)

pub handed_as_sent : sent.HandedAsSent
handed_as_sent life room devices is past later now account device number parts here =
    let x : Exchange = ((now, OfAccount account (Start device number)), reply.Documents parts) in
    let at = found_at life past later x room devices is here in
    let job = started_job device number (reply.Documents parts) past (get (account_told past).jobs number) at.finds.1 (by_makers past at.first number) in
    let handed = job.can.handed in
    let same : parts ≡ map (part_told number job.job.maker.copies) job.job.documents = cc in
    record { maker = job.job.maker; made = job.by.made; are_these = same ∙ ap (map (part_told number job.job.maker.copies)) job.by.sent }
