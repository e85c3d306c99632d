-- What an event makes of an open account, by what becomes of the room.
use Rattle.std.proofs.Common.{◌≡◌, ℕ, Bool, true, false, cond, ◌==◌, nat_lt, List, [], ◌∷◌, length, map, Option, None, Some, Result, Ok, Err, refl, ap}
use Rattle.std.specs.FinMap.{get}
use Rattle.ipp_coding.specs.Limits.{header_length}
use Rattle.ipp_coding.specs.Plain.{PlainGroup}
use Rattle.ipp_coding.specs.Reading.{header_in}
use Rattle.account_asks.specs.Asks.{PlainAsk, PlainRefusal, ask_of}
use Rattle.account_asks.specs.declared.operation.Operation.{Operation}
use Rattle.account_asks.specs.declared.operation.Operation.TheVariants.{PrintJob, ValidateJob, CreateJob, SendDocument, GetJobAttributes, GetJobs, GetPrinterAttributes}
use Rattle.account_asks.specs.declared.operation.Operation.TheVariants as asks
use Rattle.account_machine.specs.Events.{AccountEvent, OfAccount, Open, Ipp, Release, Start, Settle, Grant}
use Rattle.account_machine.specs.JobActs.{act_on, job_in, job_or_refusal}
use Rattle.account_machine.specs.JobRequests.{acted, document_taken, has_data, has_password, sent_document}
use Rattle.account_machine.specs.Machine.{answered_open, requested, responded, responded_to}
use Rattle.account_machine.specs.NewJobs.{accepts, made, made_names, new_job, new_document}
use Rattle.account_machine.specs.Requests.{Response, asked_at, doing_ask, done_with, refusing_ask, refusing_ask_or}
use Rattle.account_machine.specs.Verdicts.{short_refused}
use Rattle.account_machine.specs.Stations.{by_word, release_told, settling_told, start_told}
use Rattle.account_machine.specs.Steps.{Step, and_then, refusing, refusing_or, telling, with_moved}
use Rattle.account_machine.specs.declared.event.Reply.{Reply}
use Rattle.account_machine.specs.declared.event.Reply.TheVariants as reply
use Rattle.account_laws.specs.Told.{is_documents, is_ok, is_successful}
use Rattle.account_laws.proofs.Statuses.{IsError, RefusesByError, accepting_errs, ask_errs, move_errs}
use Rattle.account_laws.proofs.Tellings.{tells_error, tells_success, tells_word}
use Rattle.account_replies.specs.Grants.{grant_refusal}
use Rattle.account_replies.specs.JobAttributes.{job_group}
use Rattle.account_replies.specs.Lines.{success_text}
use Rattle.account_replies.specs.Parts.{part_of}
use Rattle.account_replies.specs.Stations.{known_device, ready_device}
use Rattle.account_replies.specs.declared.station_line.Success.TheVariants as success
use Rattle.account_rules.specs.Acts.{Act, CancelJob, HoldJob, ReleaseJob, StationRelease, StationStart, StationSettle}
use Rattle.account_rules.specs.Acts as act
use Rattle.account_rules.specs.Devices.{Devices}
use Rattle.account_rules.specs.Moves.{move}
use Rattle.account_rules.specs.declared.device.Device.{Device}
use Rattle.account_rules.specs.declared.job.Job.{Job}
use Rattle.account_rules.specs.declared.job.Standing.{Standing}
use Rattle.account_rules.specs.declared.refusal.Refusal.{Refusal}
use Rattle.account_rules.specs.declared.refusal.Word.{Word}
use Rattle.account_rules.specs.declared.refusal.Word.TheVariants.{Conflict, DeviceOff, Exists, NoDevice, NoJob, Same}
use Rattle.account_state.specs.Changes.{with_grant, with_new_job, with_standing}
use Rattle.account_state.specs.Documents.{documents_of}
use Rattle.account_state.specs.RoomRules.{unfinished_count}
use Rattle.account_state.specs.Rooms.{RoomValue}
use Rattle.account_state.specs.Sums.{left_in}

-- a request that makes a job
abbrev pub makes_jobs : Operation → Bool
makes_jobs PrintJob = true
makes_jobs CreateJob = true
makes_jobs _ = false

-- a request that shows something, or would make a job, and changes nothing
abbrev pub only_reads : Operation → Bool
only_reads ValidateJob = true
only_reads GetJobAttributes = true
only_reads GetJobs = true
only_reads GetPrinterAttributes = true
only_reads _ = false

-- the act on a job that a request asks for
abbrev pub act_asked : (room : RoomValue) (now : ℕ) (job : Job) → Operation → Option Act
act_asked room now job asks.CancelJob = Some (CancelJob now)
act_asked room now job asks.HoldJob = Some HoldJob
act_asked room now job asks.ReleaseJob = Some (ReleaseJob (has_password job) (left_in room now))
act_asked room now job _ = None

pub data Makes (room : RoomValue) (devices : Devices) (now : ℕ) (account : List ℕ) : AccountEvent → Reply → RoomValue → Type 0 where
  refuses : (event : AccountEvent) (told : Reply) → is_successful told ≡ false → is_ok told ≡ false → is_documents told ≡ false → Makes room devices now account event told room
  reads : (body : List ℕ) (ask : PlainAsk) (text : List ℕ) → ask_of account body ≡ Ok ask → only_reads ask.operation ≡ true → Makes room devices now account (Ipp body) (reply.Ipp text) room
  makes : (body : List ℕ) (ask : PlainAsk) (text : List ℕ) → ask_of account body ≡ Ok ask → makes_jobs ask.operation ≡ true → accepts room ≡ Ok tt → is_successful (reply.Ipp text) ≡ true
      → Makes room devices now account (Ipp body) (reply.Ipp text) (with_new_job room (new_job room.next ask now) (new_document room.next ask))
  takes : (body : List ℕ) (ask : PlainAsk) (text : List ℕ) (job : Job) (standing : Standing) → ask_of account body ≡ Ok ask → ask.operation ≡ SendDocument → get room.jobs ask.job ≡ Some job
      → move (act.SendDocument ask.last (has_data ask)) job.standing ≡ Ok standing → is_successful (reply.Ipp text) ≡ true
      → Makes room devices now account (Ipp body) (reply.Ipp text) (with_standing room ask.job standing (sent_document ask job))
  acts : (body : List ℕ) (ask : PlainAsk) (text : List ℕ) (job : Job) (it : Act) (standing : Standing) → ask_of account body ≡ Ok ask → get room.jobs ask.job ≡ Some job → act_asked room now job ask.operation ≡ Some it
      → move it job.standing ≡ Ok standing → is_successful (reply.Ipp text) ≡ true → Makes room devices now account (Ipp body) (reply.Ipp text) (with_moved room ask.job standing)
  releases : (device : List ℕ) (number : ℕ) (password : List ℕ) (impressions : ℕ) (ready : Device) (job : Job) (standing : Standing) → ready_device (get devices device) ≡ Ok ready → get room.jobs number ≡ Some job
      → move (StationRelease job.password device password impressions ready.rate (left_in room now)) job.standing ≡ Ok standing
      → Makes room devices now account (Release device number password impressions) (reply.Line (success_text (success.Released standing.reserved (left_in (with_moved room number standing) now)))) (with_moved room number standing)
  starts : (device : List ℕ) (number : ℕ) (ready : Device) (job : Job) (standing : Standing) → ready_device (get devices device) ≡ Ok ready → get room.jobs number ≡ Some job
      → move (StationStart device ready.rate now) job.standing ≡ Ok standing
      → Makes room devices now account (Start device number) (reply.Documents (map (part_of standing.copies) (documents_of room number))) (with_moved room number standing)
  settles : (device : List ℕ) (number impressions : ℕ) (failed : Bool) (known : Device) (job : Job) (standing : Standing) → get devices device ≡ Some known → get room.jobs number ≡ Some job
      → move (StationSettle device impressions failed now) job.standing ≡ Ok standing
      → Makes room devices now account (Settle device number impressions failed) (reply.Line (success_text (success.Settled standing.charged (left_in (with_moved room number standing) now)))) (with_moved room number standing)
  grants : (month pages : ℕ) → get room.grants month ≡ None → Makes room devices now account (Grant month pages) (reply.Line (success_text success.Ok)) (with_grant room month pages)

-- ---- what becomes of it, as one step, or as one response to a request

abbrev MakesStep : (room : RoomValue) (devices : Devices) (now : ℕ) (account : List ℕ) (event : AccountEvent) (told : Step) → Type 0
MakesStep room devices now account event told = Makes room devices now account event told.reply told.room

abbrev MakesResponse : (room : RoomValue) (devices : Devices) (now : ℕ) (account : List ℕ) (body : List ℕ) (told : Response) → Type 0
MakesResponse room devices now account body told = Makes room devices now account (Ipp body) (reply.Ipp told.text) told.room

-- ---- requests

refuses_ask : (room : RoomValue) (devices : Devices) (now : ℕ) (account : List ℕ) (body : List ℕ) (ask : PlainAsk) (refusal : Refusal) → IsError refusal.status → MakesResponse room devices now account body (refusing_ask room ask refusal)
refuses_ask room devices now account body ask refusal errs = refuses _ _ (tells_error ask.header refusal ask.unsupported errs) refl refl

-- Print-Job and Create-Job
made_or : (room : RoomValue) (devices : Devices) (now : ℕ) (account : List ℕ) (body : List ℕ) (ask : PlainAsk) (groups : List PlainGroup) → ask_of account body ≡ Ok ask → makes_jobs ask.operation ≡ true
    → (taken : Result (Unit {0}) Refusal) → accepts room ≡ taken → RefusesByError taken
    → MakesResponse room devices now account body (refusing_ask_or room ask taken (λ _. done_with (with_new_job room (new_job room.next ask now) (new_document room.next ask)) ask room.next groups))
made_or room devices now account body ask groups asked it (Ok tt) is errs = makes body ask _ asked it is (tells_success ask.header ask.unsupported groups)
made_or room devices now account body ask groups asked it (Err refusal) is errs = refuses_ask room devices now account body ask refusal errs

made_it : (room : RoomValue) (devices : Devices) (now : ℕ) (account : List ℕ) (body : List ℕ) (ask : PlainAsk) → ask_of account body ≡ Ok ask → makes_jobs ask.operation ≡ true → MakesResponse room devices now account body (made room account now ask)
made_it room devices now account body ask asked it =
    made_or room devices now account body ask (job_group (asked_at room.opened account now ask) (new_job room.next ask now) made_names ∷ []) asked it (accepts room) refl (accepting_errs (unfinished_count room) room.next)

-- what is only read, or refused
shown_or : {A : Type 0} (room : RoomValue) (devices : Devices) (now : ℕ) (account : List ℕ) (body : List ℕ) (ask : PlainAsk) → ask_of account body ≡ Ok ask → only_reads ask.operation ≡ true → (decided : Result A Refusal) (groups : A → List PlainGroup)
    → MakesResponse room devices now account body (refusing_ask_or room ask decided (λ x. doing_ask room ask (groups x)))
shown_or room devices now account body ask asked it (Ok x) groups = reads body ask _ asked it
shown_or room devices now account body ask asked it (Err refusal) groups = reads body ask _ asked it

-- Send-Document
taken_or : (room : RoomValue) (devices : Devices) (now : ℕ) (account : List ℕ) (body : List ℕ) (ask : PlainAsk) → ask_of account body ≡ Ok ask → ask.operation ≡ SendDocument → (job : Job) → get room.jobs ask.job ≡ Some job
    → (moved : Result Standing Refusal) → move (act.SendDocument ask.last (has_data ask)) job.standing ≡ moved → RefusesByError moved
    → MakesResponse room devices now account body (refusing_ask_or room ask moved (document_taken room account now ask job))
taken_or room devices now account body ask asked it job there (Ok standing) is errs =
    takes body ask _ job standing asked it there is (tells_success ask.header ask.unsupported (job_group (asked_at room.opened account now ask) (record job { standing = standing }) made_names ∷ []))
taken_or room devices now account body ask asked it job there (Err refusal) is errs = refuses_ask room devices now account body ask refusal errs

sent_or : (room : RoomValue) (devices : Devices) (now : ℕ) (account : List ℕ) (body : List ℕ) (ask : PlainAsk) → ask_of account body ≡ Ok ask → ask.operation ≡ SendDocument → (found : Option Job) → get room.jobs ask.job ≡ found
    → MakesResponse room devices now account body (refusing_ask_or room ask (job_or_refusal found) (λ (job : Job). refusing_ask_or room ask (move (act.SendDocument ask.last (has_data ask)) job.standing) (document_taken room account now ask job)))
sent_or room devices now account body ask asked it None there = refuses_ask room devices now account body ask (record { status = 0x0406; word = NoJob }) refl
sent_or room devices now account body ask asked it (Some job) there = taken_or room devices now account body ask asked it job there _ refl (move_errs (act.SendDocument ask.last (has_data ask)) job.standing)

-- Cancel-Job, Hold-Job and Release-Job
acted_or : (room : RoomValue) (devices : Devices) (now : ℕ) (account : List ℕ) (body : List ℕ) (ask : PlainAsk) → ask_of account body ≡ Ok ask → (job : Job) (it : Act) → get room.jobs ask.job ≡ Some job → act_asked room now job ask.operation ≡ Some it
    → (moved : Result Standing Refusal) → move it job.standing ≡ moved → RefusesByError moved → MakesResponse room devices now account body (acted room ask moved)
acted_or room devices now account body ask asked job it there is_act (Ok standing) is errs = acts body ask _ job it standing asked there is_act is (tells_success ask.header ask.unsupported [])
acted_or room devices now account body ask asked job it there is_act (Err refusal) is errs = refuses_ask room devices now account body ask refusal errs

acted_on : (room : RoomValue) (devices : Devices) (now : ℕ) (account : List ℕ) (body : List ℕ) (ask : PlainAsk) → ask_of account body ≡ Ok ask → (it : Job → Act) → ((job : Job) → act_asked room now job ask.operation ≡ Some (it job))
    → (found : Option Job) → get room.jobs ask.job ≡ found → MakesResponse room devices now account body (acted room ask (and_then (job_or_refusal found) (λ (job : Job). move (it job) job.standing)))
acted_on room devices now account body ask asked it is_act None there = refuses_ask room devices now account body ask (record { status = 0x0406; word = NoJob }) refl
acted_on room devices now account body ask asked it is_act (Some job) there = acted_or room devices now account body ask asked job (it job) there (is_act job) _ refl (move_errs (it job) job.standing)

-- by the operation
done_ask : (room : RoomValue) (devices : Devices) (now : ℕ) (account : List ℕ) (body : List ℕ) (ask : PlainAsk) → ask_of account body ≡ Ok ask → (operation : Operation) → ask.operation ≡ operation → MakesResponse room devices now account body (responded room devices account now ask operation)
done_ask room devices now account body ask asked PrintJob is = made_it room devices now account body ask asked (ap makes_jobs is)
done_ask room devices now account body ask asked ValidateJob is = shown_or room devices now account body ask asked (ap only_reads is) (accepts room) (λ _. [])
done_ask room devices now account body ask asked CreateJob is = made_it room devices now account body ask asked (ap makes_jobs is)
done_ask room devices now account body ask asked SendDocument is = sent_or room devices now account body ask asked is (get room.jobs ask.job) refl
done_ask room devices now account body ask asked asks.CancelJob is = acted_on room devices now account body ask asked (λ _. CancelJob now) (λ job. ap (act_asked room now job) is) (get room.jobs ask.job) refl
done_ask room devices now account body ask asked GetJobAttributes is = shown_or room devices now account body ask asked (ap only_reads is) (job_in room ask.job) (λ (job : Job). job_group (asked_at room.opened account now ask) job ask.wanted ∷ [])
done_ask room devices now account body ask asked GetJobs is = reads body ask _ asked (ap only_reads is)
done_ask room devices now account body ask asked GetPrinterAttributes is = reads body ask _ asked (ap only_reads is)
done_ask room devices now account body ask asked asks.HoldJob is = acted_on room devices now account body ask asked (λ _. HoldJob) (λ job. ap (act_asked room now job) is) (get room.jobs ask.job) refl
done_ask room devices now account body ask asked asks.ReleaseJob is =
    acted_on room devices now account body ask asked (λ (job : Job). ReleaseJob (has_password job) (left_in room now)) (λ job. ap (act_asked room now job) is) (get room.jobs ask.job) refl

-- once it is read
read_ask : (room : RoomValue) (devices : Devices) (now : ℕ) (account : List ℕ) (body : List ℕ) (read : Result PlainAsk PlainRefusal) → ask_of account body ≡ read → MakesResponse room devices now account body (responded_to room devices account now (header_in body) read)
read_ask room devices now account body (Ok ask) asked = done_ask room devices now account body ask asked ask.operation refl
read_ask room devices now account body (Err refused) asked = refuses _ _ (tells_error (header_in body) refused.refusal refused.unsupported (ask_errs account body refused asked)) refl refl

-- one that is too short for a header is told so
long_or_short : (room : RoomValue) (devices : Devices) (now : ℕ) (account : List ℕ) (body : List ℕ) (told : Response) → MakesResponse room devices now account body told → (is_short : Bool)
    → MakesStep room devices now account (Ipp body) (cond is_short (record { reply = reply.Short; verdict = short_refused; room = room }) (record { reply = reply.Ipp told.text; verdict = told.verdict; room = told.room }))
long_or_short room devices now account body told made true = refuses _ _ refl refl refl
long_or_short room devices now account body told made false = made

requests : (room : RoomValue) (devices : Devices) (now : ℕ) (account : List ℕ) (body : List ℕ) → MakesStep room devices now account (Ipp body) (requested room devices now account body)
requests room devices now account body = long_or_short room devices now account body _ (read_ask room devices now account body (ask_of account body) refl) (nat_lt (length body) header_length)

-- ---- lines

refuses_line : (room : RoomValue) (devices : Devices) (now : ℕ) (account : List ℕ) (event : AccountEvent) (word : Word) → MakesStep room devices now account event (refusing room word)
refuses_line room devices now account event word = refuses _ _ refl (tells_word word) refl

-- a device that is ready is known
pub ready_is : (found : Option Device) (ready : Device) → ready_device found ≡ Ok ready → found ≡ Some ready
ready_is None ready is = absurd (let no : ⊥ = cc in no)
ready_is (Some device) ready is = by device.on is
  where
    by : (on : Bool) → cond {A = Result Device Word} on (Ok device) (Err DeviceOff) ≡ Ok ready → Some device ≡ Some ready
    by true same = cc
    by false same = absurd (let no : ⊥ = cc in no)

-- a release
released_or : (room : RoomValue) (devices : Devices) (now : ℕ) (account : List ℕ) (device : List ℕ) (number : ℕ) (password : List ℕ) (impressions : ℕ) (ready : Device) → ready_device (get devices device) ≡ Ok ready → (job : Job) → get room.jobs number ≡ Some job
    → (moved : Result Standing Refusal) → move (StationRelease job.password device password impressions ready.rate (left_in room now)) job.standing ≡ moved
    → MakesStep room devices now account (Release device number password impressions) (release_told room now number (by_word moved))
released_or room devices now account device number password impressions ready on job there (Ok standing) is = releases device number password impressions ready job standing on there is
released_or room devices now account device number password impressions ready on job there (Err refusal) is = refuses_line room devices now account _ refusal.word

released_at : (room : RoomValue) (devices : Devices) (now : ℕ) (account : List ℕ) (device : List ℕ) (number : ℕ) (password : List ℕ) (impressions : ℕ) (ready : Device) → ready_device (get devices device) ≡ Ok ready → (found : Option Job) → get room.jobs number ≡ found
    → MakesStep room devices now account (Release device number password impressions) (release_told room now number (by_word (and_then (job_or_refusal found) (λ (job : Job). move (StationRelease job.password device password impressions ready.rate (left_in room now)) job.standing))))
released_at room devices now account device number password impressions ready on None there = refuses_line room devices now account _ NoJob
released_at room devices now account device number password impressions ready on (Some job) there = released_or room devices now account device number password impressions ready on job there _ refl

released : (room : RoomValue) (devices : Devices) (now : ℕ) (account : List ℕ) (device : List ℕ) (number : ℕ) (password : List ℕ) (impressions : ℕ) (found : Result Device Word) → ready_device (get devices device) ≡ found
    → MakesStep room devices now account (Release device number password impressions)
    (release_told room now number (and_then found (λ (ready : Device). by_word (act_on room number (λ (job : Job). StationRelease job.password device password impressions ready.rate (left_in room now))))))
released room devices now account device number password impressions (Err word) on = refuses_line room devices now account _ word
released room devices now account device number password impressions (Ok ready) on = released_at room devices now account device number password impressions ready on (get room.jobs number) refl

-- a start
started_or : (room : RoomValue) (devices : Devices) (now : ℕ) (account : List ℕ) (device : List ℕ) (number : ℕ) (ready : Device) → ready_device (get devices device) ≡ Ok ready → (job : Job) → get room.jobs number ≡ Some job
    → (moved : Result Standing Refusal) → move (StationStart device ready.rate now) job.standing ≡ moved → MakesStep room devices now account (Start device number) (start_told room number (by_word moved))
started_or room devices now account device number ready on job there (Ok standing) is = starts device number ready job standing on there is
started_or room devices now account device number ready on job there (Err refusal) is = refuses_line room devices now account _ refusal.word

started_at : (room : RoomValue) (devices : Devices) (now : ℕ) (account : List ℕ) (device : List ℕ) (number : ℕ) (ready : Device) → ready_device (get devices device) ≡ Ok ready → (found : Option Job) → get room.jobs number ≡ found
    → MakesStep room devices now account (Start device number) (start_told room number (by_word (and_then (job_or_refusal found) (λ (job : Job). move (StationStart device ready.rate now) job.standing))))
started_at room devices now account device number ready on None there = refuses_line room devices now account _ NoJob
started_at room devices now account device number ready on (Some job) there = started_or room devices now account device number ready on job there _ refl

started : (room : RoomValue) (devices : Devices) (now : ℕ) (account : List ℕ) (device : List ℕ) (number : ℕ) (found : Result Device Word) → ready_device (get devices device) ≡ found
    → MakesStep room devices now account (Start device number) (start_told room number (and_then found (λ (ready : Device). by_word (act_on room number (λ _. StationStart device ready.rate now)))))
started room devices now account device number (Err word) on = refuses_line room devices now account _ word
started room devices now account device number (Ok ready) on = started_at room devices now account device number ready on (get room.jobs number) refl

-- a settlement
settled_or : (room : RoomValue) (devices : Devices) (now : ℕ) (account : List ℕ) (device : List ℕ) (number impressions : ℕ) (failed : Bool) (known : Device) → get devices device ≡ Some known → (job : Job) → get room.jobs number ≡ Some job
    → (moved : Result Standing Refusal) → move (StationSettle device impressions failed now) job.standing ≡ moved
    → MakesStep room devices now account (Settle device number impressions failed) (settling_told room now number (by_word moved))
settled_or room devices now account device number impressions failed known on job there (Ok standing) is = settles device number impressions failed known job standing on there is
settled_or room devices now account device number impressions failed known on job there (Err refusal) is = refuses_line room devices now account _ refusal.word

settled_at : (room : RoomValue) (devices : Devices) (now : ℕ) (account : List ℕ) (device : List ℕ) (number impressions : ℕ) (failed : Bool) (known : Device) → get devices device ≡ Some known → (found : Option Job) → get room.jobs number ≡ found
    → MakesStep room devices now account (Settle device number impressions failed) (settling_told room now number (by_word (and_then (job_or_refusal found) (λ (job : Job). move (StationSettle device impressions failed now) job.standing))))
settled_at room devices now account device number impressions failed known on None there = refuses_line room devices now account _ NoJob
settled_at room devices now account device number impressions failed known on (Some job) there = settled_or room devices now account device number impressions failed known on job there _ refl

settled : (room : RoomValue) (devices : Devices) (now : ℕ) (account : List ℕ) (device : List ℕ) (number impressions : ℕ) (failed : Bool) (found : Option Device) → get devices device ≡ found
    → MakesStep room devices now account (Settle device number impressions failed) (settling_told room now number (and_then (known_device found) (λ _. by_word (act_on room number (λ _. StationSettle device impressions failed now)))))
settled room devices now account device number impressions failed None on = refuses_line room devices now account _ NoDevice
settled room devices now account device number impressions failed (Some known) on = settled_at room devices now account device number impressions failed known on (get room.jobs number) refl

-- a grant
regranted : (room : RoomValue) (devices : Devices) (now : ℕ) (account : List ℕ) (month pages held : ℕ) (is_same : Bool)
    → MakesStep room devices now account (Grant month pages) (refusing_or room (cond {A = Result (Unit {0}) Word} is_same (Err Same) (Err (Conflict held))) (λ _. telling (with_grant room month pages) success.Ok))
regranted room devices now account month pages held true = refuses_line room devices now account _ Same
regranted room devices now account month pages held false = refuses_line room devices now account _ (Conflict held)

given : (room : RoomValue) (devices : Devices) (now : ℕ) (account : List ℕ) (month pages : ℕ) (held : Option ℕ) → get room.grants month ≡ held
    → MakesStep room devices now account (Grant month pages) (refusing_or room (grant_refusal held pages) (λ _. telling (with_grant room month pages) success.Ok))
given room devices now account month pages None is = grants month pages is
given room devices now account month pages (Some held) is = regranted room devices now account month pages held (held == pages)

-- ---- each event

-- each event does one of these
pub makes_one : (room : RoomValue) (devices : Devices) (now : ℕ) (account : List ℕ) (event : AccountEvent) →
    Makes room devices now account event (answered_open room devices now (OfAccount account event)).reply (answered_open room devices now (OfAccount account event)).room
makes_one room devices now account Open = refuses_line room devices now account Open Exists
makes_one room devices now account (Ipp body) = requests room devices now account body
makes_one room devices now account (Release device number password impressions) = released room devices now account device number password impressions (ready_device (get devices device)) refl
makes_one room devices now account (Start device number) = started room devices now account device number (ready_device (get devices device)) refl
makes_one room devices now account (Settle device number impressions failed) = settled room devices now account device number impressions failed (get devices device) refl
makes_one room devices now account (Grant month pages) = given room devices now account month pages (get room.grants month) refl
