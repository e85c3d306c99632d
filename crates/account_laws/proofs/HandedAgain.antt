-- Documents that are handed out again are those of the start.
use Rattle.std.proofs.Common.{bytes_eq, ◌≡◌, ℕ, Bool, true, false, cond, ◌==◌, not, List, [], ◌∷◌, ◌++◌, map, Option, Some, None, option_map, Result, Ok, Err, refl, sym, ap, subst, ◌∙◌, append_assoc, arith}
use Rattle.std.specs.FinMap.{get, get-empty}
use Rattle.std.specs.Ordering.{nat_cmp}
use Rattle.std.proofs.lemmas.Bool.{eqb-true, not-false, true≢false}
use Rattle.std.proofs.lemmas.Grind.{common_steps}
use Rattle.std.proofs.lemmas.List.Elements.{All-nil, All-push}
use Rattle.std.proofs.lemmas.Slice.Eq.{bytes_eq-Decides}
use Rattle.account_asks.specs.Asks.{PlainAsk}
use Rattle.account_asks.specs.declared.operation.Operation.{Operation}
use Rattle.account_asks.specs.declared.operation.Operation.TheVariants as asks
use Rattle.account_machine.specs.Events.{Open, Ipp, Release, Start, Settle, Grant, Switch, Rate, OfAccount, OfDevice}
use Rattle.account_machine.specs.Steps.{and_then}
use Rattle.account_machine.specs.declared.event.Reply.{Reply}
use Rattle.account_machine.specs.declared.event.Reply.TheVariants as reply
use Rattle.account_laws.proofs.AsTold.{all_keep, found, told_more}
use Rattle.account_laws.proofs.DeedFinds.{CanBeStarted, Finds, IsFreeFor, TakesDocuments, found_it, grows}
use Rattle.account_laws.proofs.DeedTurns.{next_is, others_same, turned, turned_so}
use Rattle.account_laws.proofs.DocumentsOfJobs.{AreOfJobs, handed_as_sent, has_of_jobs}
use Rattle.account_laws.specs.AccountsTold.{AccountTold, account_told, after_deed, rate_told}
use Rattle.account_laws.specs.Deeds.{Deed, Opened, Made, Brought, Canceled, HeldBack, Freed, Released, Started, Settled, Granted, Switched, Rated, NoDeed, asked_deed, deed_of, deed_of_request, moment_of}
use Rattle.account_laws.specs.HandedAgain as law
use Rattle.account_laws.specs.HandedAgain.{WasHanded, cancels}
use Rattle.account_laws.specs.HandedOnce.{hands_out, settles}
use Rattle.account_laws.specs.ItsOwnJob.{is_on}
use Rattle.account_laws.specs.JobsMade.{jobs_made}
use Rattle.account_laws.specs.JobsTold.{JobTold, Stage, Waits, IsFree, Prints, HasEnded, job_brought, job_canceled, job_freed, job_held, job_made, job_released, job_settled, job_started, stage_canceled, stage_held, stage_released, stage_settled, stage_started}
use Rattle.account_lives.specs.Lives.{Exchange, Life}
use Rattle.account_laws.specs.StandsAsTold.{IsAsTold, IsAt}
use Rattle.account_laws.specs.StationAnswers.{part_told}
use Rattle.account_laws.specs.Told.{is_documents, is_ok, is_successful, request_of}
use Rattle.account_questions.specs.Stations.{handed_again, printed_by, said_or}
use Rattle.account_replies.specs.Parts.{part_of}
use Rattle.account_replies.specs.Stations.{known_device}
use Rattle.account_replies.specs.declared.part.Part.{Part}
use Rattle.account_rules.specs.Effects.{is_bound_elsewhere}
use Rattle.account_rules.specs.JobStates.{has_ended, is_processing, is_unfinished}
use Rattle.account_rules.specs.declared.device.Device.{Device}
use Rattle.account_rules.specs.declared.job.Job.{Job}
use Rattle.account_rules.specs.declared.job.JobState.{JobState}
use Rattle.account_rules.specs.declared.job.Standing.{Standing}
use Rattle.account_rules.specs.declared.refusal.Word.{Word}
use Rattle.account_rules.specs.declared.refusal.Word.TheVariants.{NotProcessing, OtherDevice, Stopping}
use Rattle.account_state.specs.Documents.{documents_of}
use Rattle.account_state.specs.Rooms.{RoomValue}

-- ---- the exchange of a start

abbrev is_start : Deed → Bool
is_start (Started device number) = true
is_start _ = false

if_done : (done : Bool) (deed : Deed) → is_start deed ≡ false → is_start (cond done deed NoDeed) ≡ false
if_done true deed isnt = isnt
if_done false deed isnt = refl

no_operation_starts : (ask : PlainAsk) (operation : Operation) → is_start (asked_deed ask operation) ≡ false
no_operation_starts ask asks.PrintJob = refl
no_operation_starts ask asks.CreateJob = refl
no_operation_starts ask asks.SendDocument = refl
no_operation_starts ask asks.CancelJob = refl
no_operation_starts ask asks.HoldJob = refl
no_operation_starts ask asks.ReleaseJob = refl
no_operation_starts ask _ = refl

no_request_starts : (asked : Option PlainAsk) → is_start (deed_of_request asked) ≡ false
no_request_starts None = refl
no_request_starts (Some ask) = no_operation_starts ask ask.operation

none_else : {A : Type 0} (device : List ℕ) (number : ℕ) (deed : Deed) → deed ≡ Started device number → is_start deed ≡ false → A
none_else device number deed is isnt = absurd (true≢false (sym (ap is_start is) ∙ isnt))

-- an exchange that started a job was asked for by its device
record IsStartOf (device : List ℕ) (number : ℕ) (x : Exchange) : Type 0 where
  pub now : ℕ
  pub account : List ℕ
  pub is : x ≡ ((now, OfAccount account (Start device number)), x.1)

start_of : (device : List ℕ) (number : ℕ) (x : Exchange) → deed_of x ≡ Started device number → IsStartOf device number x
start_of device number ((now, OfAccount account Open), told) is = none_else device number _ is (if_done (is_ok told) Opened refl)
start_of device number ((now, OfAccount account (Ipp body)), told) is =
    none_else device number _ is (if_done (is_successful told) (deed_of_request (request_of account (Ipp body))) (no_request_starts (request_of account (Ipp body))))
start_of device number ((now, OfAccount account (Release at job password impressions)), told) is = none_else device number _ is (if_done (is_ok told) (Released at job impressions) refl)
start_of device number ((now, OfAccount account (Start at job)), told) is = by (is_documents told) is
  where
    by : (done : Bool) → cond done (Started at job) NoDeed ≡ Started device number → IsStartOf device number ((now, OfAccount account (Start at job)), told)
    by true same =
        let here : at ≡ device = cc in
        let its : job ≡ number = cc in
        record { now = now; account = account; is = λ i. ((now, OfAccount account (Start (here i) (its i))), told) }
    by false same = none_else device number NoDeed same refl
start_of device number ((now, OfAccount account (Settle at job impressions failed)), told) is = none_else device number _ is (if_done (is_ok told) (Settled at job impressions failed) refl)
start_of device number ((now, OfAccount account (Grant month pages)), told) is = none_else device number _ is (if_done (is_ok told) (Granted month pages) refl)
start_of device number ((now, OfDevice at (Switch on)), told) is = none_else device number _ is (if_done (is_ok told) (Switched at on) refl)
start_of device number ((now, OfDevice at (Rate units)), told) is = none_else device number _ is (if_done (is_ok told) (Rated at units) refl)

-- ---- what holds of each job that a device prints

-- a stage in which the device prints what was not canceled
abbrev pub IsPrintedBy : (device : List ℕ) → Stage → Type 0
IsPrintedBy device (Prints by rate units since is_canceled) = (by ≡ device) × (is_canceled ≡ false)
IsPrintedBy device _ = ⊥

-- what was sent for a job, as a device is handed it
abbrev pub parts_told : (number : ℕ) → JobTold → List Part
parts_told number job = map (part_told number job.maker.copies) job.documents

abbrev IsHandedOut : ℕ → Option JobTold → Life → Type 0
IsHandedOut number None past = Unit {0}
IsHandedOut number (Some job) past = (device : List ℕ) → IsPrintedBy device job.stage → WasHanded device number (parts_told number job) past

canceled_not_printed : {A : Type 0} (device : List ℕ) (now : ℕ) (stage : Stage) → IsPrintedBy device (stage_canceled now stage) → A
canceled_not_printed device now (Prints by rate units since is_canceled) printed = absurd (true≢false printed.1)
canceled_not_printed device now Waits printed = absurd printed
canceled_not_printed device now (IsFree for rate units) printed = absurd printed
canceled_not_printed device now (HasEnded how count units since at) printed = absurd printed

held_printed : (device : List ℕ) (stage : Stage) → IsPrintedBy device (stage_held stage) → IsPrintedBy device stage
held_printed device (Prints by rate units since is_canceled) printed = printed
held_printed device Waits printed = absurd printed
held_printed device (IsFree for rate units) printed = absurd printed
held_printed device (HasEnded how count units since at) printed = absurd printed

released_printed : (device : List ℕ) (for : Option (List ℕ)) (rate units : ℕ) (stage : Stage) → IsPrintedBy device (stage_released for rate units stage) → IsPrintedBy device stage
released_printed device for rate units (Prints by at_rate reserved since is_canceled) printed = printed
released_printed device for rate units Waits printed = absurd printed
released_printed device for rate units (IsFree other at_rate reserved) printed = absurd printed
released_printed device for rate units (HasEnded how count charged since at) printed = absurd printed

-- the device that starts a job is the one that prints it
started_printed : (device at : List ℕ) (now : ℕ) (stage : Stage) → IsFreeFor at stage → IsPrintedBy device (stage_started at now stage) → at ≡ device
started_printed device at now (IsFree for rate units) free printed = printed.0
started_printed device at now _ free printed = absurd free

settled_not_printed : {A : Type 0} (device : List ℕ) (count : ℕ) (failed : Bool) (now : ℕ) (stage : Stage) → IsPrintedBy device (stage_settled count failed now stage) → A
settled_not_printed device count failed now Waits printed = absurd printed
settled_not_printed device count failed now (IsFree for rate units) printed = absurd printed
settled_not_printed device count failed now (Prints by rate units since is_canceled) printed = absurd printed
settled_not_printed device count failed now (HasEnded how counted units since at) printed = absurd printed

-- ---- an exchange more

was_still : (device : List ℕ) (number : ℕ) (parts : List Part) (past : Life) (x : Exchange) → hands_out number (deed_of x) ≡ false → settles number (deed_of x) ≡ false → cancels number (deed_of x) ≡ false → WasHanded device number parts past → WasHanded device number parts (past ++ x ∷ [])
was_still device number parts past x unstarted unsettled uncanceled was =
    let start : Exchange = ((was.now, OfAccount was.account (Start device number)), reply.Documents parts) in
    record {
      earlier = was.earlier;
      now = was.now;
      account = was.account;
      later = was.later ++ x ∷ [];
      are_these = ap (λ (life : Life). life ++ x ∷ []) was.are_these ∙ append_assoc was.earlier (start ∷ was.later) (x ∷ []);
      not_restarted = All-push (λ (y : Exchange). hands_out number (deed_of y) ≡ false) was.later x was.not_restarted unstarted;
      not_settled = All-push (λ (y : Exchange). settles number (deed_of y) ≡ false) was.later x was.not_settled unsettled;
      not_canceled = All-push (λ (y : Exchange). cancels number (deed_of y) ≡ false) was.later x was.not_canceled uncanceled;
    }

-- a deed that is not on the job neither starts nor settles nor cancels it
not_handed_out : (number made : ℕ) (deed : Deed) → is_on number made deed ≡ false → hands_out number deed ≡ false
not_handed_out number made (Started device job) isnt = isnt
not_handed_out number made _ isnt = refl

not_settled : (number made : ℕ) (deed : Deed) → is_on number made deed ≡ false → settles number deed ≡ false
not_settled number made (Settled device job impressions failed) isnt = isnt
not_settled number made _ isnt = refl

not_canceled : (number made : ℕ) (deed : Deed) → is_on number made deed ≡ false → cancels number deed ≡ false
not_canceled number made (Canceled job) isnt = isnt
not_canceled number made _ isnt = refl

module _ (past : Life) (x : Exchange) (number : ℕ) where
  abbrev told : AccountTold
  told = account_told past

  abbrev there : Option JobTold
  there = get told.jobs number

  abbrev after : Life
  after = past ++ x ∷ []

  -- a deed after which a job is printed only if it was, and by the same device
  still : (change : JobTold → JobTold) → ((job : JobTold) → parts_told number (change job) ≡ parts_told number job) → ((device : List ℕ) (job : JobTold) → IsPrintedBy device (change job).stage → IsPrintedBy device job.stage)
      → hands_out number (deed_of x) ≡ false → settles number (deed_of x) ≡ false → cancels number (deed_of x) ≡ false → (o : Option JobTold) → IsHandedOut number o past → IsHandedOut number (option_map change o) after
  still change same was unstarted unsettled uncanceled None handed = tt
  still change same was unstarted unsettled uncanceled (Some job) handed = λ device printed.
      subst (λ (parts : List Part). WasHanded device number parts after) (sym (same job))
      (was_still device number (parts_told number job) past x unstarted unsettled uncanceled (handed device (was device job printed)))

  stays_so : (o : Option JobTold) → hands_out number (deed_of x) ≡ false → settles number (deed_of x) ≡ false → cancels number (deed_of x) ≡ false → IsHandedOut number o past → IsHandedOut number o after
  stays_so None unstarted unsettled uncanceled handed = tt
  stays_so (Some job) unstarted unsettled uncanceled handed = λ device printed. was_still device number (parts_told number job) past x unstarted unsettled uncanceled (handed device printed)

  -- the start itself
  new_start : (device : List ℕ) (parts : List Part) → deed_of x ≡ Started device number → x.1 ≡ reply.Documents parts → WasHanded device number parts after
  new_start device parts is said =
      let start = start_of device number x is in
      record {
        earlier = past;
        now = start.now;
        account = start.account;
        later = [];
        are_these = ap (λ (y : Exchange). past ++ y ∷ []) (start.is ∙ ap (λ (told : Reply). ((start.now, OfAccount start.account (Start device number)), told)) said);
        not_restarted = All-nil (λ (y : Exchange). hands_out number (deed_of y) ≡ false);
        not_settled = All-nil (λ (y : Exchange). settles number (deed_of y) ≡ false);
        not_canceled = All-nil (λ (y : Exchange). cancels number (deed_of y) ≡ false);
      }

  -- where the deed is on the job
  on_it : (deed : Deed) → deed_of x ≡ deed → Finds told x deed → is_on number (jobs_made past) deed ≡ true → IsHandedOut number there past → IsHandedOut number (turned (moment_of x) told number deed) after
  on_it (Made ask) is finds on handed =
      subst (λ (b : Bool). IsHandedOut number (cond b (Some (job_made (moment_of x) ask)) there) after) (sym (ap (λ (n : ℕ). number == n) (next_is past) ∙ on))
      (λ device printed. absurd printed)
  on_it (Brought ask) is finds on handed =
      subst (λ (b : Bool). IsHandedOut number (cond b (option_map (job_brought ask) there) there) after) (sym on) (brought there refl)
    where
      brought : (o : Option JobTold) → there ≡ o → IsHandedOut number (option_map (job_brought ask) o) after
      brought None none = tt
      brought (Some job) here = λ device printed. absurd (subst (IsPrintedBy device) (found_it told number ask.job TakesDocuments job here on finds).waits printed)
  on_it (Canceled q) is finds on handed =
      subst (λ (b : Bool). IsHandedOut number (cond b (option_map (job_canceled (moment_of x)) there) there) after) (sym on) (canceled there)
    where
      canceled : (o : Option JobTold) → IsHandedOut number (option_map (job_canceled (moment_of x)) o) after
      canceled None = tt
      canceled (Some job) = λ device printed. canceled_not_printed device (moment_of x) job.stage printed
  on_it (HeldBack q) is finds on handed =
      subst (λ (b : Bool). IsHandedOut number (cond b (option_map job_held there) there) after) (sym on)
      (still job_held (λ job. refl) (λ device job. held_printed device job.stage) (ap (hands_out number) is) (ap (settles number) is) (ap (cancels number) is) there handed)
  on_it (Freed q) is finds on handed =
      subst (λ (b : Bool). IsHandedOut number (cond b (option_map job_freed there) there) after) (sym on)
      (still job_freed (λ job. refl) (λ device job. released_printed device None _ _ job.stage) (ap (hands_out number) is) (ap (settles number) is) (ap (cancels number) is) there handed)
  on_it (Released at q impressions) is finds on handed =
      subst (λ (b : Bool). IsHandedOut number (cond b (option_map (job_released at (rate_told told at) impressions) there) there) after) (sym on)
      (still (job_released at (rate_told told at) impressions) (λ job. refl) (λ device job. released_printed device (Some at) _ _ job.stage) (ap (hands_out number) is) (ap (settles number) is) (ap (cancels number) is) there handed)
  on_it (Started at q) is finds on handed =
      subst (λ (b : Bool). IsHandedOut number (cond b (option_map (job_started at (moment_of x)) there) there) after) (sym on) (started there refl)
    where
      its : q ≡ number
      its = sym (eqb-true number q on)

      started : (o : Option JobTold) → there ≡ o → IsHandedOut number (option_map (job_started at (moment_of x)) o) after
      started None none = tt
      started (Some job) here = λ device printed.
          let can = found_it told number q (CanBeStarted at q x.1) job here on finds.1 in
          let same = started_printed device at (moment_of x) job.stage can.is_free printed in
          new_start device (parts_told number job) (is ∙ (λ i. Started (same i) (its i))) (can.handed ∙ ap (λ (n : ℕ). reply.Documents (parts_told n job)) its)
  on_it (Settled at q impressions failed) is finds on handed =
      subst (λ (b : Bool). IsHandedOut number (cond b (option_map (job_settled impressions failed (moment_of x)) there) there) after) (sym on) (settled there)
    where
      settled : (o : Option JobTold) → IsHandedOut number (option_map (job_settled impressions failed (moment_of x)) o) after
      settled None = tt
      settled (Some job) = λ device printed. settled_not_printed device impressions failed (moment_of x) job.stage printed
  on_it _ is finds on handed = absurd (true≢false (sym on))

  -- and where it is on another
  more_on : (b : Bool) → is_on number (jobs_made past) (deed_of x) ≡ b → Finds told x (deed_of x) → IsHandedOut number there past → IsHandedOut number (get (after_deed (moment_of x) told (deed_of x)).jobs number) after
  more_on true on finds handed = subst (λ (o : Option JobTold). IsHandedOut number o after) (sym (turned_so (moment_of x) told number (deed_of x))) (on_it (deed_of x) refl finds on handed)
  more_on false isnt finds handed =
      subst (λ (o : Option JobTold). IsHandedOut number o after) (sym (others_same (moment_of x) told (jobs_made past) number (deed_of x) (next_is past) isnt))
      (stays_so there (not_handed_out number (jobs_made past) (deed_of x) isnt) (not_settled number (jobs_made past) (deed_of x) isnt) (not_canceled number (jobs_made past) (deed_of x) isnt) handed)

-- ---- over a life

abbrev AreHandedOut : Life → Type 0
AreHandedOut past = (number : ℕ) → IsHandedOut number (get (account_told past).jobs number) past

handed_more : (past : Life) (x : Exchange) → Finds (account_told past) x (deed_of x) → AreHandedOut past → AreHandedOut (past ++ x ∷ [])
handed_more past x finds handed number =
    subst (λ (told : AccountTold). IsHandedOut number (get told.jobs number) (past ++ x ∷ [])) (sym (told_more past x))
    (more_on past x number (is_on number (jobs_made past) (deed_of x)) refl finds (handed number))

handed_first : AreHandedOut []
handed_first number = subst (λ (o : Option JobTold). IsHandedOut number o []) (sym (get-empty nat_cmp number)) tt

-- ---- the question

-- the job of which documents are handed out again
record IsAgain (device : List ℕ) (number : ℕ) (parts : List Part) (room : RoomValue) : Type 0 where
  pub job : Job
  pub is_there : get room.jobs number ≡ Some job
  pub is_printed : is_processing job.standing.state ≡ true
  pub is_here : is_bound_elsewhere job.standing.device device ≡ false
  pub goes_on : job.standing.stopping ≡ false
  pub are_these : map (part_of job.standing.copies) (documents_of room job.job) ≡ parts

no_line : {A : Type 0} (text : List ℕ) (parts : List Part) → reply.Line text ≡ reply.Documents parts → A
no_line text parts is = absurd (true≢false (sym (ap is_documents is)))

module _ (room : RoomValue) (device : List ℕ) (number : ℕ) (parts : List Part) where
  by_job : (found : Option Job) → get room.jobs number ≡ found → said_or (printed_by device found) (handed_again room) ≡ reply.Documents parts → IsAgain device number parts room
  by_job None none is = no_line _ parts is
  by_job (Some job) there is = by (is_processing job.standing.state) refl (is_bound_elsewhere job.standing.device device) refl job.standing.stopping refl is
    where
      by : (printed : Bool) → is_processing job.standing.state ≡ printed → (elsewhere : Bool) → is_bound_elsewhere job.standing.device device ≡ elsewhere → (stopping : Bool) → job.standing.stopping ≡ stopping
          → said_or (cond {A = Result Job Word} (not printed) (Err NotProcessing) (cond elsewhere (Err OtherDevice) (cond stopping (Err Stopping) (Ok job)))) (handed_again room) ≡ reply.Documents parts → IsAgain device number parts room
      by true printed false here false on is = let same : map (part_of job.standing.copies) (documents_of room job.job) ≡ parts = cc in record { job = job; is_there = there; is_printed = printed; is_here = here; goes_on = on; are_these = same }
      by true printed false here true stopping is = no_line _ parts is
      by true printed true elsewhere stopping is_stopping is = no_line _ parts is
      by false other elsewhere where_it_is stopping is_stopping is = no_line _ parts is

  by_device : (known : Option Device) → said_or (and_then (known_device known) (λ _. printed_by device (get room.jobs number))) (handed_again room) ≡ reply.Documents parts → IsAgain device number parts room
  by_device None is = no_line _ parts is
  by_device (Some known) is = by_job (get room.jobs number) refl is

-- it is told that the device prints it
over_not_processing : (how : JobState) (s : Standing) → s.state ≡ how → has_ended how ≡ true → is_processing s.state ≡ true → ⊥
over_not_processing how s state ended processing = grind (arith, common_steps)

bound_here : (by device : List ℕ) → is_bound_elsewhere (Some by) device ≡ false → by ≡ device
bound_here by device is = (bytes_eq-Decides by device).0 (not-false (bytes_eq by device) is)

printed_as_told : (device : List ℕ) (stage : Stage) (s : Standing) → IsAt stage s → is_processing s.state ≡ true → is_bound_elsewhere s.device device ≡ false → s.stopping ≡ false → IsPrintedBy device stage
printed_as_told device Waits s at processing here goes_on = absurd (true≢false (sym processing ∙ ap is_processing at.state))
printed_as_told device (IsFree for rate units) s at processing here goes_on = absurd (true≢false (sym processing ∙ ap is_processing at.state))
printed_as_told device (Prints by rate units since is_canceled) s at processing here goes_on = (bound_here by device (ap (λ (o : Option (List ℕ)). is_bound_elsewhere o device) (sym at.bound) ∙ here), sym at.stopping ∙ goes_on)
printed_as_told device (HasEnded how count units since ended) s at processing here goes_on = absurd (over_not_processing how s at.state at.is_end processing)

goes_on_if_processing : (state : JobState) → is_processing state ≡ true → is_unfinished state ≡ true
goes_on_if_processing state processing = grind (arith, common_steps)

-- what the room has of the job is what was sent for it
pub parts_as_told : (number : ℕ) (ticket : JobTold) (room : RoomValue) (job : Job) → AreOfJobs room.documents → IsAsTold number ticket room job → is_processing job.standing.state ≡ true
    → map (part_of job.standing.copies) (documents_of room job.job) ≡ parts_told number ticket
parts_as_told number ticket room job of is processing =
    ap (λ (n : ℕ). map (part_of job.standing.copies) (documents_of room n)) is.numbered
    ∙ ap (λ (copies : ℕ). map (part_of copies) (documents_of room number)) is.copies
    ∙ handed_as_sent room number ticket.maker.copies of
    ∙ ap (map (part_told number ticket.maker.copies)) (is.documents (goes_on_if_processing job.standing.state processing))

pub handed_again_as_started : law.HandedAgain
handed_again_as_started life room devices is account device number parts answered =
    let again = by_device room device number parts (get devices device) answered in
    let all = all_keep life (Some room) devices is in
    let told = account_told life in
    let it = found number told room again.job all.account.stands again.is_there in
    let s = again.job.standing in
    let printed = printed_as_told device it.ticket.stage s it.is.stage again.is_printed again.is_here again.goes_on in
    let each : AreHandedOut life = grows AreHandedOut handed_more handed_first life (Some room) devices is in
    let handed = subst (λ (o : Option JobTold). IsHandedOut number o life) it.is_told (each number) in
    let same : parts_told number it.ticket ≡ parts = sym (parts_as_told number it.ticket room again.job (has_of_jobs life (Some room) devices is) it.is again.is_printed) ∙ again.are_these in
    subst (λ (parts : List Part). WasHanded device number parts life) same (handed device printed)
