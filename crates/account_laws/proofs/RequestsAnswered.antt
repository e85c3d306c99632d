-- What each request is answered, by what was told before it.
use Rattle.std.proofs.Common.{◌∙◌, ◌≡◌, ℕ, ℤ, Bool, true, false, cond, not, ◌==◌, ◌&&◌, ◌||◌, nat_le, nat_lt, List, [], ◌∷◌, length, Option, Some, None, Result, Ok, Err, ◌*◌, refl, sym, ap, subst, arith}
use Rattle.std.specs.FinMap.{get}
use Rattle.std.specs.Option.{option_map_or}
use Rattle.std.proofs.lemmas.Bool.Decides.{nat_tests}
use Rattle.ipp_coding.specs.Limits.{header_length}
use Rattle.ipp_coding.specs.Plain.{PlainGroup}
use Rattle.ipp_coding.specs.Reading.{header_in}
use Rattle.ipp_coding.specs.declared.message.Header.{Header}
use Rattle.account_asks.specs.Asks.{PlainAsk, PlainRefusal, ask_of}
use Rattle.account_asks.specs.declared.operation.Operation.{Operation}
use Rattle.account_asks.specs.declared.operation.Operation.TheVariants.{PrintJob, ValidateJob, CreateJob, GetJobAttributes, GetJobs, GetPrinterAttributes}
use Rattle.account_asks.specs.declared.operation.Operation.TheVariants as asks
use Rattle.account_machine.specs.Events.{OfAccount, Ipp}
use Rattle.account_machine.specs.JobActs.{job_or_refusal}
use Rattle.account_machine.specs.JobRequests.{has_data, has_password, document_taken}
use Rattle.account_machine.specs.Machine.{answered, responded, responded_to}
use Rattle.account_machine.specs.NewJobs.{accepts, made_names, new_job}
use Rattle.account_machine.specs.Printers.{printer_of}
use Rattle.account_machine.specs.Queues.{asked_jobs, listed_names}
use Rattle.account_machine.specs.Requests.{answer_to, Response, asked_at, doing_ask, refusing_ask_or}
use Rattle.account_machine.specs.Steps.{Step, and_then, with_moved}
use Rattle.account_machine.specs.Verdicts.{short_refused}
use Rattle.account_machine.specs.declared.event.Reply.{Reply}
use Rattle.account_machine.specs.declared.event.Reply.TheVariants as reply
use Rattle.account_laws.proofs.AsTold.{AccountKeeps, Keeps, all_keep}
use Rattle.account_laws.proofs.AsToldSums.{left_as_told, unfinished_as_told}
use Rattle.account_lives.proofs.LifeLemmas.{front_of_life, unopened_answer}
use Rattle.account_laws.proofs.Moved.{ended_is}
use Rattle.account_laws.proofs.Tellings.{tells_success}
use Rattle.account_laws.specs.AccountsTold.{AccountTold, account_told}
use Rattle.account_laws.specs.JobsTold.{JobTold, Stage, Waits, IsFree, Prints, HasEnded, is_over}
use Rattle.account_laws.specs.Refusals.{Check, first_refusal}
use Rattle.account_laws.specs.RequestAnswers.{RequestsAreAnswered, cancel_checks, document_checks, hold_checks, new_job_checks, not_possible, of_its_job, operation_checks, owner_release_checks, answer_as_read, answer_of, request_answer}
use Rattle.account_laws.specs.DoneAnswers.{groups_told}
use Rattle.account_laws.proofs.DoneAnswers.{says}
use Rattle.account_laws.specs.JobsTold.{is_printing, is_stopping}
use Rattle.account_laws.specs.StandsAsTold.{device_told, AreAsTold, IsAsTold, IsAt, StandsAsTold}
use Rattle.account_laws.specs.StationAnswers.{is_past, is_waiting}
use Rattle.account_laws.specs.Told.{is_successful}
use Rattle.account_replies.specs.JobAttributes.{job_group}
use Rattle.account_replies.specs.PrinterAttributes.{printer_group}
use Rattle.account_replies.specs.Queues.{accepting_refusal, is_accepting}
use Rattle.account_replies.specs.Responses.{refused_text, job_groups}
use Rattle.account_rules.specs.Acts.{Act, CancelJob, HoldJob, ReleaseJob}
use Rattle.account_rules.specs.Acts as act
use Rattle.account_rules.specs.Devices.{Devices}
use Rattle.account_rules.specs.Effects.{after_cancel, after_document, after_hold, after_release, after_stop, refused, refused_document}
use Rattle.account_rules.specs.JobStates.{has_ended, is_unfinished}
use Rattle.account_rules.specs.Moves.{cell, move}
use Rattle.account_rules.specs.Quota.{exceeds, need_of}
use Rattle.account_rules.specs.declared.job.Job.{Job}
use Rattle.account_rules.specs.declared.job.JobState.{JobState}
use Rattle.account_rules.specs.declared.job.JobState.TheVariants.{Held, Pending, Processing}
use Rattle.account_rules.specs.declared.job.Standing.{Standing}
use Rattle.account_rules.specs.declared.refusal.Refusal.{Refusal}
use Rattle.account_rules.specs.declared.refusal.Word.TheVariants.{Closed, Ended, ImpressionsUnknown, Incomplete, NoJob, NotAccepting, Password, Printing, Quota, Stopping, TooManyDocuments}
use Rattle.account_state.specs.RoomRules.{unfinished_count}
use Rattle.account_state.specs.Rooms.{RoomValue}
use Rattle.account_state.specs.Sums.{left_in}
use Rattle.std.specs.FinMap.{values}

-- ---- what is decided, and the first check that refuses

-- the machine refuses for what the checks refuse, and goes on where they refuse nothing
abbrev pub DecidedBy : {A : Type 0} → Result A Refusal → Option Refusal → Type 0
DecidedBy (Ok x) found = found ≡ None
DecidedBy (Err refusal) found = found ≡ Some refusal

-- ---- a new job

abbrev no_new_job : Refusal
no_new_job = record { status = 0x0506; word = NotAccepting }

takes_or_not : (refuses : Bool) → DecidedBy (cond {A = Result (Unit {0}) Refusal} (not refuses) (Ok tt) (Err no_new_job)) (first_refusal ((refuses, no_new_job) ∷ []))
takes_or_not true = refl
takes_or_not false = refl

alike : (unfinished next : ℕ) → is_accepting unfinished next ≡ not (nat_le 100 unfinished || nat_lt 999999 next)
alike unfinished next = grind (arith, nat_tests)

accepts_so : (unfinished next : ℕ) → DecidedBy (accepting_refusal unfinished next) (first_refusal ((nat_le 100 unfinished || nat_lt 999999 next, no_new_job) ∷ []))
accepts_so unfinished next =
    let refuses = nat_le 100 unfinished || nat_lt 999999 next in
    subst (λ (b : Bool). DecidedBy (cond {A = Result (Unit {0}) Refusal} b (Ok tt) (Err no_new_job)) (first_refusal ((refuses, no_new_job) ∷ []))) (sym (alike unfinished next)) (takes_or_not refuses)

new_job_decided : (told : AccountTold) (room : RoomValue) → StandsAsTold told room → DecidedBy (accepts room) (first_refusal (new_job_checks told))
new_job_decided told room stands =
    subst (λ (unfinished : ℕ). DecidedBy (accepts room) (first_refusal ((nat_le 100 unfinished || nat_lt 999999 told.next, no_new_job) ∷ []))) (unfinished_as_told told room stands)
    (subst (λ (next : ℕ). DecidedBy (accepts room) (first_refusal ((nat_le 100 (unfinished_count room) || nat_lt 999999 next, no_new_job) ∷ []))) stands.next (accepts_so (unfinished_count room) room.next))

-- ---- the table of states

module _ (held pending processing ended : Result Standing Refusal) where
  -- each of the six states by its own cell
  at_state : (s : JobState) (state : JobState) (found : Option Refusal) → s ≡ state → DecidedBy (cell state held pending processing ended) found → DecidedBy (cell s held pending processing ended) found
  at_state s state found is = subst (λ (st : JobState). DecidedBy (cell st held pending processing ended) found) (sym is)

  at_end : (state : JobState) (found : Option Refusal) → has_ended state ≡ true → DecidedBy ended found → DecidedBy (cell state held pending processing ended) found
  at_end state found is d = subst (λ (decided : Result Standing Refusal). DecidedBy decided found) (sym (ended_is state is held pending processing ended)) d

-- a document
sends_or_not : (is_open some_data many : Bool) (closes takes : Standing)
    → DecidedBy (cond (not is_open) (refused Closed) (cond (not some_data) (Ok closes) (cond many refused_document (Ok takes)))) (first_refusal ((not (true && is_open), not_possible Closed) ∷ (some_data && many, record { status = 0x0509; word = TooManyDocuments }) ∷ []))
sends_or_not true true true closes takes = refl
sends_or_not true true false closes takes = refl
sends_or_not true false many closes takes = refl
sends_or_not false some_data many closes takes = refl

abbrev document_refusal : (is_open some_data : Bool) (documents : ℕ) (stage : Stage) → Option Refusal
document_refusal is_open some_data documents stage = first_refusal ((not (is_waiting stage && is_open), not_possible Closed) ∷ (some_data && nat_le 8 documents, record { status = 0x0509; word = TooManyDocuments }) ∷ [])

document_at : (last some_data : Bool) (stage : Stage) (s : Standing) (is_open : Bool) → IsAt stage s → (is_unfinished s.state ≡ true → s.is_open ≡ is_open) → DecidedBy (move (act.SendDocument last some_data) s) (document_refusal is_open some_data s.documents stage)
document_at last some_data Waits s is_open at opens =
    at_state (after_document s last some_data) (refused Closed) (refused Closed) (refused Closed) s.state Held _ at.state
    (subst (λ (b : Bool). DecidedBy (after_document s last some_data) (document_refusal b some_data s.documents Waits)) (opens (ap is_unfinished at.state)) (sends_or_not s.is_open some_data (nat_le 8 s.documents) _ _))
document_at last some_data (IsFree device rate units) s is_open at opens = at_state (after_document s last some_data) (refused Closed) (refused Closed) (refused Closed) s.state Pending _ at.state refl
document_at last some_data (Prints device rate units since is_canceled) s is_open at opens = at_state (after_document s last some_data) (refused Closed) (refused Closed) (refused Closed) s.state Processing _ at.state refl
document_at last some_data (HasEnded how count units since ended) s is_open at opens =
    at_state (after_document s last some_data) (refused Closed) (refused Closed) (refused Closed) s.state how _ at.state
    (at_end (after_document s last some_data) (refused Closed) (refused Closed) (refused Closed) how _ at.is_end refl)

-- a cancel
abbrev cancel_refusal : (stopping : Bool) (over : Bool) → Option Refusal
cancel_refusal stopping over = first_refusal ((over, not_possible Ended) ∷ (stopping, not_possible Stopping) ∷ [])

stops_or_not : (s : Standing) (stopping : Bool) → s.stopping ≡ stopping → DecidedBy (after_stop s) (cancel_refusal stopping false)
stops_or_not s stopping is = subst (λ (b : Bool). DecidedBy (cond b (refused Stopping) (Ok (record s { stopping = true }))) (cancel_refusal stopping false)) (sym is) (by stopping)
  where
    by : (b : Bool) → DecidedBy (cond b (refused Stopping) (Ok (record s { stopping = true }))) (cancel_refusal b false)
    by true = refl
    by false = refl

cancel_at : (now : ℕ) (stage : Stage) (s : Standing) → IsAt stage s → DecidedBy (move (CancelJob now) s) (cancel_refusal (is_stopping stage) (is_over stage))
cancel_at now Waits s at = at_state (Ok (after_cancel s now)) (Ok (after_cancel s now)) (after_stop s) (refused Ended) s.state Held _ at.state refl
cancel_at now (IsFree device rate units) s at = at_state (Ok (after_cancel s now)) (Ok (after_cancel s now)) (after_stop s) (refused Ended) s.state Pending _ at.state refl
cancel_at now (Prints device rate units since is_canceled) s at = at_state (Ok (after_cancel s now)) (Ok (after_cancel s now)) (after_stop s) (refused Ended) s.state Processing _ at.state (stops_or_not s is_canceled at.stopping)
cancel_at now (HasEnded how count units since ended) s at =
    at_state (Ok (after_cancel s now)) (Ok (after_cancel s now)) (after_stop s) (refused Ended) s.state how _ at.state (at_end (Ok (after_cancel s now)) (Ok (after_cancel s now)) (after_stop s) (refused Ended) how _ at.is_end refl)

-- a hold
hold_at : (stage : Stage) (s : Standing) → IsAt stage s → DecidedBy (move HoldJob s) (first_refusal ((is_over stage, not_possible Ended) ∷ (is_printing stage, not_possible Printing) ∷ []))
hold_at Waits s at = at_state (Ok s) (Ok (after_hold s)) (refused Printing) (refused Ended) s.state Held _ at.state refl
hold_at (IsFree device rate units) s at = at_state (Ok s) (Ok (after_hold s)) (refused Printing) (refused Ended) s.state Pending _ at.state refl
hold_at (Prints device rate units since is_canceled) s at = at_state (Ok s) (Ok (after_hold s)) (refused Printing) (refused Ended) s.state Processing _ at.state refl
hold_at (HasEnded how count units since ended) s at = at_state (Ok s) (Ok (after_hold s)) (refused Printing) (refused Ended) s.state how _ at.state (at_end (Ok s) (Ok (after_hold s)) (refused Printing) (refused Ended) how _ at.is_end refl)

-- a release
abbrev release_refusal : (is_open none has_password : Bool) (impressions copies : ℕ) (left : ℤ) (stage : Stage) → Option Refusal
release_refusal is_open none has_password impressions copies left stage =
    let need = impressions * copies * 1 in
    let waits = is_waiting stage in
    first_refusal
    ((is_over stage, not_possible Ended)
    ∷ (waits && (is_open || none), not_possible Incomplete)
    ∷ (waits && has_password, not_possible Password)
    ∷ (waits && impressions == 0, not_possible ImpressionsUnknown)
    ∷ (waits && is_past need left, not_possible (Quota need left))
    ∷ [])

releases_or_not : (incomplete has_password unknown past : Bool) (need : ℕ) (left : ℤ) (released : Standing)
    → DecidedBy (cond incomplete (refused Incomplete) (cond has_password (refused Password) (cond unknown (refused ImpressionsUnknown) (cond past (refused (Quota need left)) (Ok released)))))
    (first_refusal ((false, not_possible Ended) ∷ (true && incomplete, not_possible Incomplete) ∷ (true && has_password, not_possible Password) ∷ (true && unknown, not_possible ImpressionsUnknown) ∷ (true && past, not_possible (Quota need left)) ∷ []))
releases_or_not true has_password unknown past need left released = refl
releases_or_not false true unknown past need left released = refl
releases_or_not false false true past need left released = refl
releases_or_not false false false true need left released = refl
releases_or_not false false false false need left released = refl

release_at : (has_password : Bool) (left : ℤ) (stage : Stage) (s : Standing) (is_open : Bool) → IsAt stage s → (is_unfinished s.state ≡ true → s.is_open ≡ is_open)
    → DecidedBy (move (ReleaseJob has_password left) s) (release_refusal is_open (s.documents == 0) has_password s.impressions s.copies left stage)
release_at has_password left Waits s is_open at opens =
    at_state (after_release s has_password left) (Ok s) (Ok s) (refused Ended) s.state Held _ at.state
    (subst (λ (b : Bool). DecidedBy (after_release s has_password left) (release_refusal b (s.documents == 0) has_password s.impressions s.copies left Waits)) (opens (ap is_unfinished at.state))
    (releases_or_not (s.is_open || s.documents == 0) has_password (s.impressions == 0) (exceeds (need_of s.impressions s.copies 1) left) (need_of s.impressions s.copies 1) left _))
release_at has_password left (IsFree device rate units) s is_open at opens = at_state (after_release s has_password left) (Ok s) (Ok s) (refused Ended) s.state Pending _ at.state refl
release_at has_password left (Prints device rate units since is_canceled) s is_open at opens = at_state (after_release s has_password left) (Ok s) (Ok s) (refused Ended) s.state Processing _ at.state refl
release_at has_password left (HasEnded how count units since ended) s is_open at opens =
    at_state (after_release s has_password left) (Ok s) (Ok s) (refused Ended) s.state how _ at.state (at_end (after_release s has_password left) (Ok s) (Ok s) (refused Ended) how _ at.is_end refl)

-- ---- what is answered

-- it is refused, or its answer tells that it is done
abbrev IsDoneOr : (ask : PlainAsk) (refused : Option Refusal) (said : Reply) → Type 0
IsDoneOr ask None said = is_successful said ≡ true
IsDoneOr ask (Some refusal) said = said ≡ reply.Ipp (refused_text ask.header refusal ask.unsupported)

-- a request that is decided so is answered so
answers_so : {A : Type 0} (room : RoomValue) (ask : PlainAsk) (decided : Result A Refusal) (next : A → Response) (found : Option Refusal) → DecidedBy decided found → ((x : A) → is_successful (reply.Ipp (next x).text) ≡ true)
    → IsDoneOr ask found (reply.Ipp (refusing_ask_or room ask decided next).text)
answers_so room ask (Ok x) next found by done = subst (λ (o : Option Refusal). IsDoneOr ask o (reply.Ipp (next x).text)) (sym by) (done x)
answers_so room ask (Err refusal) next found by done = subst (λ (o : Option Refusal). IsDoneOr ask o (reply.Ipp (refusing_ask_or {A = Standing} room ask (Err refusal) (λ _. doing_ask room ask [])).text)) (sym by) refl

done : (ask : PlainAsk) (groups : List PlainGroup) → (room : RoomValue) → is_successful (reply.Ipp (doing_ask room ask groups).text) ≡ true
done ask groups room = tells_success ask.header ask.unsupported groups

-- a job that is not there is refused, and of one that is there the checks decide
module _ (told : AccountTold) (room : RoomValue) (ask : PlainAsk) (checks : JobTold → List (Check Refusal)) where
  abbrev AnswersOf : Response → Type 0
  AnswersOf response = IsDoneOr ask (first_refusal (of_its_job told ask.job checks)) (reply.Ipp response.text)

  of_job : (next : Job → Response) → ((ticket : JobTold) (job : Job) → IsAsTold ask.job ticket room job → IsDoneOr ask (first_refusal (checks ticket)) (reply.Ipp (next job).text))
      → StandsAsTold told room → AnswersOf (refusing_ask_or room ask (job_or_refusal (get room.jobs ask.job)) next)
  of_job next each stands = by (get told.jobs ask.job) (get room.jobs ask.job) (stands.jobs ask.job)
    where
      by : (ticket : Option JobTold) (job : Option Job) → AreAsTold ask.job ticket room job → IsDoneOr ask (first_refusal (option_map_or checks ticket ((true, record { status = 0x0406; word = NoJob }) ∷ []))) (reply.Ipp (refusing_ask_or room ask (job_or_refusal job) next).text)
      by None job are = subst (λ (o : Option Job). IsDoneOr ask (Some (record { status = 0x0406; word = NoJob })) (reply.Ipp (refusing_ask_or room ask (job_or_refusal o) next).text)) (sym are) refl
      by (Some ticket) None are = absurd are
      by (Some ticket) (Some job) are = each ticket job are

-- an act is one check after another
acted_is : (room : RoomValue) (ask : PlainAsk) (act : Job → Act) (next : Standing → Response) (found : Option Job)
    → refusing_ask_or room ask (and_then (job_or_refusal found) (λ (job : Job). move (act job) job.standing)) next ≡ refusing_ask_or room ask (job_or_refusal found) (λ (job : Job). refusing_ask_or room ask (move (act job) job.standing) next)
acted_is room ask act next None = refl
acted_is room ask act next (Some job) = refl

module _ (told : AccountTold) (room : RoomValue) (devices : Devices) (now : ℕ) (account : List ℕ) (stands : StandsAsTold told room) (ask : PlainAsk) where
  abbrev Answers : Operation → Type 0
  Answers operation = IsDoneOr ask (first_refusal (operation_checks told now ask operation)) (reply.Ipp (responded room devices account now ask operation).text)

  acts : (act : Job → Act) (checks : JobTold → List (Check Refusal)) → ((ticket : JobTold) (job : Job) → IsAsTold ask.job ticket room job → DecidedBy (move (act job) job.standing) (first_refusal (checks ticket)))
      → AnswersOf told room ask checks (refusing_ask_or room ask (and_then (job_or_refusal (get room.jobs ask.job)) (λ (job : Job). move (act job) job.standing)) (λ (standing : Standing). doing_ask (with_moved room ask.job standing) ask []))
  acts act checks each =
      let next : Standing → Response = λ (standing : Standing). doing_ask (with_moved room ask.job standing) ask [] in
      subst (AnswersOf told room ask checks) (sym (acted_is room ask act next (get room.jobs ask.job)))
      (of_job told room ask checks (λ (job : Job). refusing_ask_or room ask (move (act job) job.standing) next)
      (λ ticket job are. answers_so room ask (move (act job) job.standing) next _ (each ticket job are) (λ standing. done ask [] (with_moved room ask.job standing))) stands)

  document_decided : (ticket : JobTold) (job : Job) → IsAsTold ask.job ticket room job → DecidedBy (move (act.SendDocument ask.last (has_data ask)) job.standing) (first_refusal (document_checks ask ticket))
  document_decided ticket job are =
      subst (λ (documents : ℕ). DecidedBy (move (act.SendDocument ask.last (has_data ask)) job.standing) (document_refusal ticket.is_open (has_data ask) documents ticket.stage)) are.count
      (document_at ask.last (has_data ask) ticket.stage job.standing ticket.is_open are.stage are.is_open)

  release_decided : (ticket : JobTold) (job : Job) → IsAsTold ask.job ticket room job → DecidedBy (move (ReleaseJob (has_password job) (left_in room now)) job.standing) (first_refusal (owner_release_checks told now ticket))
  release_decided ticket job are =
      let decided = move (ReleaseJob (has_password job) (left_in room now)) job.standing in
      subst (λ (left : ℤ). DecidedBy decided (release_refusal ticket.is_open (length ticket.documents == 0) (not (length ticket.maker.password == 0)) ticket.impressions ticket.maker.copies left ticket.stage)) (left_as_told told room stands now)
      (subst (λ (copies : ℕ). DecidedBy decided (release_refusal ticket.is_open (length ticket.documents == 0) (not (length ticket.maker.password == 0)) ticket.impressions copies (left_in room now) ticket.stage)) are.copies
      (subst (λ (impressions : ℕ). DecidedBy decided (release_refusal ticket.is_open (length ticket.documents == 0) (not (length ticket.maker.password == 0)) impressions job.standing.copies (left_in room now) ticket.stage)) are.impressions
      (subst (λ (password : List ℕ). DecidedBy decided (release_refusal ticket.is_open (length ticket.documents == 0) (not (length password == 0)) job.standing.impressions job.standing.copies (left_in room now) ticket.stage)) are.password
      (subst (λ (documents : ℕ). DecidedBy decided (release_refusal ticket.is_open (documents == 0) (has_password job) job.standing.impressions job.standing.copies (left_in room now) ticket.stage)) are.count
      (release_at (has_password job) (left_in room now) ticket.stage job.standing ticket.is_open are.stage are.is_open)))))

  answers_operation : (operation : Operation) → Answers operation
  answers_operation PrintJob = answers_so room ask (accepts room) _ _ (new_job_decided told room stands) (λ _. done ask (job_group (asked_at room.opened account now ask) (new_job room.next ask now) made_names ∷ []) room)
  answers_operation ValidateJob = answers_so room ask (accepts room) _ _ (new_job_decided told room stands) (λ _. done ask [] room)
  answers_operation CreateJob = answers_so room ask (accepts room) _ _ (new_job_decided told room stands) (λ _. done ask (job_group (asked_at room.opened account now ask) (new_job room.next ask now) made_names ∷ []) room)
  answers_operation asks.SendDocument =
      of_job told room ask (document_checks ask) (λ (job : Job). refusing_ask_or room ask (move (act.SendDocument ask.last (has_data ask)) job.standing) (document_taken room account now ask job))
      (λ ticket job are.
      answers_so room ask (move (act.SendDocument ask.last (has_data ask)) job.standing) (document_taken room account now ask job) _ (document_decided ticket job are)
      (λ standing. done ask (job_group (asked_at room.opened account now ask) (record job { standing = standing }) made_names ∷ []) room)) stands
  answers_operation asks.CancelJob = acts (λ _. CancelJob now) cancel_checks (λ ticket job are. cancel_at now ticket.stage job.standing are.stage)
  answers_operation GetJobAttributes =
      of_job told room ask (λ _. []) (λ (job : Job). doing_ask room ask (job_group (asked_at room.opened account now ask) job ask.wanted ∷ [])) (λ ticket job are. done ask (job_group (asked_at room.opened account now ask) job ask.wanted ∷ []) room) stands
  answers_operation GetJobs = done ask (job_groups (asked_at room.opened account now ask) (asked_jobs ask (values room.jobs)) (listed_names ask.wanted)) room
  answers_operation GetPrinterAttributes = done ask (printer_group (asked_at room.opened account now ask) (printer_of room devices) ask.wanted ∷ []) room
  answers_operation asks.HoldJob = acts (λ _. HoldJob) hold_checks (λ ticket job are. hold_at ticket.stage job.standing are.stage)
  answers_operation asks.ReleaseJob = acts (λ (job : Job). ReleaseJob (has_password job) (left_in room now)) (owner_release_checks told now) release_decided

-- ---- the law

exact : (ask : PlainAsk) (groups : List PlainGroup) (found : Option Refusal) (text : List ℕ) → IsDoneOr ask found (reply.Ipp text) → (is_successful (reply.Ipp text) ≡ true → text ≡ answer_to ask groups) → reply.Ipp text ≡ answer_of ask groups found
exact ask groups None text done says = ap reply.Ipp (says done)
exact ask groups (Some refusal) text refused says = refused

answers_read : (told : AccountTold) (room : RoomValue) (devices : Devices) → ((name : List ℕ) → get devices name ≡ device_told told name) → (now : ℕ) (account : List ℕ) (header : Header) (read : Result PlainAsk PlainRefusal) → Keeps told room
    → reply.Ipp (responded_to room devices account now header read).text ≡ answer_as_read told now account header read
answers_read told room devices known now account header (Err refused) keeps = refl
answers_read told room devices known now account header (Ok ask) keeps =
    exact ask (groups_told told account now ask ask.operation) (first_refusal (operation_checks told now ask ask.operation)) (responded room devices account now ask ask.operation).text (answers_operation told room devices now account keeps.stands ask ask.operation)
    (says told room devices known now account keeps ask ask.operation)

answers_it : (told : AccountTold) (room : Option RoomValue) (devices : Devices) → ((name : List ℕ) → get devices name ≡ device_told told name) → (now : ℕ) (account body : List ℕ) → AccountKeeps told room
    → (answered room devices now (OfAccount account (Ipp body))).reply ≡ request_answer told now account body
answers_it told None devices known now account body was =
    by (nat_lt (length body) header_length)
    ∙ sym (ap (λ (o : Option ℕ). cond (nat_lt (length body) header_length) reply.Short (option_map_or (λ _. answer_as_read told now account (header_in body) (ask_of account body)) o reply.NoAccount)) was.opened)
  where
    by : (short : Bool) → (unopened_answer short).reply ≡ cond short reply.Short reply.NoAccount
    by true = refl
    by false = refl
answers_it told (Some room) devices known now account body keeps = by (responded_to room devices account now (header_in body) (ask_of account body)) (answers_read told room devices known now account (header_in body) (ask_of account body) keeps) (nat_lt (length body) header_length)
  where
    by : (response : Response) → reply.Ipp response.text ≡ answer_as_read told now account (header_in body) (ask_of account body) → (short : Bool)
        → (cond {A = Step} short (record { reply = reply.Short; verdict = short_refused; room = room }) (record { reply = reply.Ipp response.text; verdict = response.verdict; room = response.room })).reply
        ≡ cond short reply.Short (option_map_or (λ _. answer_as_read told now account (header_in body) (ask_of account body)) told.opened reply.NoAccount)
    by response answers true = refl
    by response answers false = answers ∙ ap (λ (o : Option ℕ). option_map_or (λ _. answer_as_read told now account (header_in body) (ask_of account body)) o reply.NoAccount) (sym keeps.stands.opened)

pub requests_are_answered : RequestsAreAnswered
requests_are_answered life room devices is past later now account body said here =
    let front = front_of_life life past later ((now, OfAccount account (Ipp body)), said) room devices is here in
    let all = all_keep past front.room front.devices front.first in
    front.rest.0 ∙ answers_it (account_told past) front.room front.devices all.knows.known now account body all.account
