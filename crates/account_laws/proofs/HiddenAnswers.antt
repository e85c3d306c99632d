-- Each event but a release at a station is answered alike where the passwords are hidden.
use Rattle.std.proofs.Common.{◌≡◌, ℕ, Bool, true, false, cond, nat_lt, List, [], ◌∷◌, map, length, Option, Some, None, option_map, Result, Ok, Err, refl, ap, ◌∙◌}
use Rattle.std.specs.FinMap.{get, values}
use Rattle.ipp_coding.specs.declared.message.Header.{Header}
use Rattle.ipp_coding.specs.Limits.{header_length}
use Rattle.ipp_coding.specs.Plain.{PlainGroup}
use Rattle.ipp_coding.specs.Reading.{header_in}
use Rattle.account_asks.specs.Asks.{PlainAsk, PlainRefusal, ask_of}
use Rattle.account_asks.specs.declared.operation.Operation.{Operation}
use Rattle.account_asks.specs.declared.operation.Operation.TheVariants.{PrintJob, ValidateJob, CreateJob, SendDocument, CancelJob, GetJobAttributes, GetJobs, GetPrinterAttributes, HoldJob, ReleaseJob}
use Rattle.account_machine.specs.Events.{AccountEvent, OfAccount, Open, Ipp, Release, Start, Settle, Grant}
use Rattle.account_machine.specs.Grants.{granted}
use Rattle.account_machine.specs.JobActs.{act_on, job_or_refusal}
use Rattle.account_machine.specs.JobRequests.{acted, cancel_of, document_taken, has_data, has_password, hold_of, job_shown, release_of, sent, sent_document}
use Rattle.account_machine.specs.Machine.{answered_open, responded, responded_to}
use Rattle.account_machine.specs.NewJobs.{made, made_names, new_document, new_job, validated}
use Rattle.account_machine.specs.Printers.{printer_shown}
use Rattle.account_machine.specs.Queues.{asked_jobs, listed, listed_names}
use Rattle.account_machine.specs.Requests.{Response, asked_at, doing_ask, done_with, refusing_ask, refusing_ask_or}
use Rattle.account_machine.specs.Verdicts.{line_done, line_refused, short_refused}
use Rattle.account_machine.specs.declared.verdict.Verdict.{Verdict}
use Rattle.account_machine.specs.declared.verdict.Verdict.TheVariants.{Refused}
use Rattle.account_machine.specs.Stations.{PlainStation, by_word, settling_told, start_told, station, station_settle, station_start}
use Rattle.account_machine.specs.Steps.{Step, and_then, refusing, refusing_or, telling, with_moved}
use Rattle.account_machine.specs.declared.event.Reply.{Reply}
use Rattle.account_machine.specs.declared.event.Reply.TheVariants as reply
use Rattle.account_replies.specs.Grants.{grant_refusal}
use Rattle.account_replies.specs.JobAttributes.{job_group}
use Rattle.account_replies.specs.Lines.{success_text}
use Rattle.account_replies.specs.Parts.{part_of}
use Rattle.account_replies.specs.PrinterAttributes.{printer_group}
use Rattle.account_replies.specs.Queues.{accepting_refusal, printer_now}
use Rattle.account_replies.specs.Responses.{job_groups, refused_text}
use Rattle.account_replies.specs.Stations.{known_device, ready_device}
use Rattle.account_replies.specs.Words.{word_text}
use Rattle.account_replies.specs.declared.station_line.Success.TheVariants.{Settled}
use Rattle.account_replies.specs.declared.station_line.Success.TheVariants as success
use Rattle.account_rules.specs.Acts.{Act, StationStart, StationSettle}
use Rattle.account_rules.specs.Acts as act
use Rattle.account_rules.specs.Devices.{Devices, is_some_on}
use Rattle.account_rules.specs.Moves.{move}
use Rattle.account_rules.specs.declared.device.Device.{Device}
use Rattle.account_rules.specs.declared.job.Job.{Job}
use Rattle.account_rules.specs.declared.job.Standing.{Standing}
use Rattle.account_rules.specs.declared.refusal.Refusal.{Refusal}
use Rattle.account_rules.specs.declared.refusal.Word.{Word}
use Rattle.account_rules.specs.declared.refusal.Word.TheVariants.{Exists}
use Rattle.account_state.specs.Changes.{with_grant, with_new_job, with_standing}
use Rattle.account_state.specs.Documents.{documents_of}
use Rattle.account_state.specs.RoomRules.{unfinished_count}
use Rattle.account_state.specs.Rooms.{RoomValue}
use Rattle.account_state.specs.Sums.{left_in}
use Rattle.account_laws.proofs.HiddenPasswords.{group_hidden, has_hidden, hidden, queue_hidden}
use Rattle.account_laws.proofs.HiddenRooms.{grant_hidden, hide, hidden_room, left_alike, left_hidden, moved_hidden, new_hidden, processing_hidden, room_once, standing_hidden, unfinished_hidden}
use Rattle.account_laws.proofs.MappedValues.{get-with_each, values-with_each}

-- the passwords are hidden in the room after it
abbrev pub hidden_step : Step → Step
hidden_step step = record { reply = step.reply; verdict = step.verdict; room = hidden_room step.room }

abbrev pub hidden_response : Response → Response
hidden_response response = record { text = response.text; verdict = response.verdict; room = hidden_room response.room }

-- two responses that are alike
abbrev pub AnswerAlike : (a b : Response) → Type 0
AnswerAlike a b = hidden_response a ≡ hidden_response b

-- two steps that are alike
abbrev pub StepAlike : (a b : Step) → Type 0
StepAlike a b = hidden_step a ≡ hidden_step b

abbrev pub is_release : AccountEvent → Bool
is_release (Release device job password impressions) = true
is_release _ = false

-- ---- one job

pub found_hidden : (room : RoomValue) (number : ℕ) → get (hide room.jobs) number ≡ option_map hidden (get room.jobs number)
found_hidden room number = get-with_each hidden room.jobs number

-- an act that is the same for both makes the same of both
act_found : (found : Option Job) (first second : Job → Act) → ((job : Job) → first (hidden job) ≡ second job) →
    and_then (job_or_refusal (option_map hidden found)) (λ (job : Job). move (first job) job.standing) ≡ and_then (job_or_refusal found) (λ (job : Job). move (second job) job.standing)
act_found None first second same = refl
act_found (Some job) first second same = ap (λ it. move it job.standing) (same job)

act_hidden : (room : RoomValue) (number : ℕ) (first second : Job → Act) → ((job : Job) → first (hidden job) ≡ second job) → act_on (hidden_room room) number first ≡ act_on room number second
act_hidden room number first second same =
    ap (λ found. and_then (job_or_refusal found) (λ (job : Job). move (first job) job.standing)) (found_hidden room number)
    ∙ act_found (get room.jobs number) first second same

-- ---- requests

module _ (room : RoomValue) (ask : PlainAsk) where
  done_alike : (number : ℕ) (a b : RoomValue) (first second : List PlainGroup) → hidden_room a ≡ hidden_room b → first ≡ second → AnswerAlike (done_with a ask number first) (done_with b ask number second)
  done_alike number a b first second rooms groups = λ i. record { text = (done_with b ask number (groups i)).text; verdict = (done_with b ask number second).verdict; room = rooms i }

  doing_alike : (a b : RoomValue) (first second : List PlainGroup) → hidden_room a ≡ hidden_room b → first ≡ second → AnswerAlike (doing_ask a ask first) (doing_ask b ask second)
  doing_alike = done_alike ask.job

  refused_alike : {A : Type 0} (decided : Result A Refusal) (first second : A → Response) → ((x : A) → AnswerAlike (first x) (second x)) → AnswerAlike (refusing_ask_or (hidden_room room) ask decided first) (refusing_ask_or room ask decided second)
  refused_alike (Err refusal) first second alike = λ i. record { text = (refusing_ask room ask refusal).text; verdict = (refusing_ask room ask refusal).verdict; room = room_once room i }
  refused_alike (Ok x) first second alike = alike x

  found_alike : (found : Option Job) (first second : Job → Response) → ((job : Job) → AnswerAlike (first (hidden job)) (second job)) →
      AnswerAlike (refusing_ask_or (hidden_room room) ask (job_or_refusal (option_map hidden found)) first) (refusing_ask_or room ask (job_or_refusal found) second)
  found_alike None first second alike = ap (λ (after : RoomValue). record { text = (refusing_ask_or room ask (job_or_refusal None) second).text; verdict = (refusing_ask_or room ask (job_or_refusal None) second).verdict; room = after }) (room_once room)
  found_alike (Some job) first second alike = alike job

  -- what is decided of a job that is there
  of_job_alike : (number : ℕ) (first second : Job → Response) → ((job : Job) → AnswerAlike (first (hidden job)) (second job)) →
      AnswerAlike (refusing_ask_or (hidden_room room) ask (job_or_refusal (get (hide room.jobs) number)) first) (refusing_ask_or room ask (job_or_refusal (get room.jobs number)) second)
  of_job_alike number first second alike =
      ap (λ found. hidden_response (refusing_ask_or (hidden_room room) ask (job_or_refusal found) first)) (found_hidden room number)
      ∙ found_alike (get room.jobs number) first second alike

  shown_alike : (account : List ℕ) (now : ℕ) → AnswerAlike (job_shown (hidden_room room) account now ask) (job_shown room account now ask)
  shown_alike account now =
      let at = asked_at room.opened account now ask in
      of_job_alike ask.job (λ job. doing_ask (hidden_room room) ask (job_group at job ask.wanted ∷ [])) (λ job. doing_ask room ask (job_group at job ask.wanted ∷ [])) (λ job.
      doing_alike (hidden_room room) room (job_group at (hidden job) ask.wanted ∷ []) (job_group at job ask.wanted ∷ []) (room_once room) (ap (λ group. group ∷ []) (group_hidden at job ask.wanted)))

  acted_alike : (first second : Result Standing Refusal) → first ≡ second → AnswerAlike (acted (hidden_room room) ask first) (acted room ask second)
  acted_alike first second same =
      ap (λ decided. hidden_response (acted (hidden_room room) ask decided)) same
      ∙ refused_alike second (λ standing. doing_ask (with_moved (hidden_room room) ask.job standing) ask []) (λ standing. doing_ask (with_moved room ask.job standing) ask []) (λ standing.
      doing_alike (with_moved (hidden_room room) ask.job standing) (with_moved room ask.job standing) [] [] (moved_hidden room ask.job standing) refl)

  release_alike : (now : ℕ) → release_of (hidden_room room) now ask ≡ release_of room now ask
  release_alike now =
      act_hidden room ask.job (λ job. act.ReleaseJob (has_password job) (left_in (hidden_room room) now)) (λ job. act.ReleaseJob (has_password job) (left_in room now))
      (λ job i. act.ReleaseJob (has_hidden job i) (left_hidden room now i))

  taken_alike : (account : List ℕ) (now : ℕ) (job : Job) (standing : Standing) → AnswerAlike (document_taken (hidden_room room) account now ask (hidden job) standing) (document_taken room account now ask job standing)
  taken_alike account now job standing =
      let at = asked_at room.opened account now ask in
      let document = sent_document ask job in
      let stood : Job = record job { standing = standing } in
      doing_alike (with_standing (hidden_room room) ask.job standing document) (with_standing room ask.job standing document)
      (job_group at (hidden stood) made_names ∷ []) (job_group at stood made_names ∷ [])
      (standing_hidden room ask.job standing document) (ap (λ group. group ∷ []) (group_hidden at stood made_names))

  sent_alike : (account : List ℕ) (now : ℕ) → AnswerAlike (sent (hidden_room room) account now ask) (sent room account now ask)
  sent_alike account now =
      of_job_alike ask.job
      (λ job. refusing_ask_or (hidden_room room) ask (move (act.SendDocument ask.last (has_data ask)) job.standing) (document_taken (hidden_room room) account now ask job))
      (λ job. refusing_ask_or room ask (move (act.SendDocument ask.last (has_data ask)) job.standing) (document_taken room account now ask job))
      (λ job. refused_alike (move (act.SendDocument ask.last (has_data ask)) job.standing) (document_taken (hidden_room room) account now ask (hidden job)) (document_taken room account now ask job) (taken_alike account now job))

  -- whether the account takes a job
  accepted_alike : (first second : Unit {0} → Response) → ((x : Unit {0}) → AnswerAlike (first x) (second x)) →
      AnswerAlike (refusing_ask_or (hidden_room room) ask (accepting_refusal (unfinished_count (hidden_room room)) room.next) first) (refusing_ask_or room ask (accepting_refusal (unfinished_count room) room.next) second)
  accepted_alike first second alike =
      ap (λ unfinished. hidden_response (refusing_ask_or (hidden_room room) ask (accepting_refusal unfinished room.next) first)) (unfinished_hidden room)
      ∙ refused_alike (accepting_refusal (unfinished_count room) room.next) first second alike

  made_alike : (account : List ℕ) (now : ℕ) → AnswerAlike (made (hidden_room room) account now ask) (made room account now ask)
  made_alike account now =
      let job = new_job room.next ask now in
      let document = new_document room.next ask in
      let groups : List PlainGroup = job_group (asked_at room.opened account now ask) job made_names ∷ [] in
      accepted_alike (λ _. done_with (with_new_job (hidden_room room) job document) ask room.next groups) (λ _. done_with (with_new_job room job document) ask room.next groups) (λ _.
      done_alike room.next (with_new_job (hidden_room room) job document) (with_new_job room job document) groups groups (new_hidden room job document) refl)

  validated_alike : AnswerAlike (validated (hidden_room room) ask) (validated room ask)
  validated_alike = accepted_alike (λ _. doing_ask (hidden_room room) ask []) (λ _. doing_ask room ask []) (λ _. doing_alike (hidden_room room) room [] [] (room_once room) refl)

  listed_alike : (account : List ℕ) (now : ℕ) → AnswerAlike (listed (hidden_room room) account now ask) (listed room account now ask)
  listed_alike account now =
      let at = asked_at room.opened account now ask in
      let groups : List Job → List PlainGroup = λ jobs. job_groups at (asked_jobs ask jobs) (listed_names ask.wanted) in
      doing_alike (hidden_room room) room (groups (values (hide room.jobs))) (groups (values room.jobs)) (room_once room)
      (ap groups (values-with_each hidden room.jobs) ∙ queue_hidden at ask (values room.jobs) (listed_names ask.wanted))

  printer_alike : (devices : Devices) (account : List ℕ) (now : ℕ) → AnswerAlike (printer_shown (hidden_room room) devices account now ask) (printer_shown room devices account now ask)
  printer_alike devices account now = λ i. record {
    text = (doing_ask room ask (printer_group (asked_at room.opened account now ask) (printer_now (unfinished_hidden room i) room.next (processing_hidden room i) (is_some_on devices)) ask.wanted ∷ [])).text;
    verdict = (doing_ask room ask []).verdict;
    room = room_once room i;
  }

  responded_alike : (devices : Devices) (account : List ℕ) (now : ℕ) (operation : Operation) → AnswerAlike (responded (hidden_room room) devices account now ask operation) (responded room devices account now ask operation)
  responded_alike devices account now PrintJob = made_alike account now
  responded_alike devices account now ValidateJob = validated_alike
  responded_alike devices account now CreateJob = made_alike account now
  responded_alike devices account now SendDocument = sent_alike account now
  responded_alike devices account now CancelJob = acted_alike (cancel_of (hidden_room room) now ask) (cancel_of room now ask) (act_hidden room ask.job (λ _. act.CancelJob now) (λ _. act.CancelJob now) (λ _. refl))
  responded_alike devices account now GetJobAttributes = shown_alike account now
  responded_alike devices account now GetJobs = listed_alike account now
  responded_alike devices account now GetPrinterAttributes = printer_alike devices account now
  responded_alike devices account now HoldJob = acted_alike (hold_of (hidden_room room) ask) (hold_of room ask) (act_hidden room ask.job (λ _. act.HoldJob) (λ _. act.HoldJob) (λ _. refl))
  responded_alike devices account now ReleaseJob = acted_alike (release_of (hidden_room room) now ask) (release_of room now ask) (release_alike now)

read_alike : (room : RoomValue) (devices : Devices) (account : List ℕ) (now : ℕ) (header : Header) (read : Result PlainAsk PlainRefusal) → AnswerAlike (responded_to (hidden_room room) devices account now header read) (responded_to room devices account now header read)
read_alike room devices account now header (Err refused) = λ i. record { text = refused_text header refused.refusal refused.unsupported; verdict = Refused refused.refusal None; room = room_once room i }
read_alike room devices account now header (Ok ask) = responded_alike room ask devices account now ask.operation

-- ---- steps

module _ (room : RoomValue) where
  replying_alike : (said : Reply) (came : Verdict) (a b : RoomValue) → hidden_room a ≡ hidden_room b → StepAlike (record { reply = said; verdict = came; room = a }) (record { reply = said; verdict = came; room = b })
  replying_alike said came a b rooms = ap (λ room. record { reply = said; verdict = came; room = room }) rooms

  requested_alike : (short : Bool) (first second : Response) → AnswerAlike first second →
      StepAlike (cond short (record { reply = reply.Short; verdict = short_refused; room = hidden_room room }) (record { reply = reply.Ipp first.text; verdict = first.verdict; room = first.room }))
      (cond short (record { reply = reply.Short; verdict = short_refused; room = room }) (record { reply = reply.Ipp second.text; verdict = second.verdict; room = second.room }))
  requested_alike true first second alike = replying_alike reply.Short short_refused (hidden_room room) room (room_once room)
  requested_alike false first second alike = ap (λ (response : Response). record { reply = reply.Ipp response.text; verdict = response.verdict; room = response.room }) alike

  decided_alike : {A : Type 0} (decided : Result A Word) (first second : A → Step) → ((x : A) → StepAlike (first x) (second x)) → StepAlike (refusing_or (hidden_room room) decided first) (refusing_or room decided second)
  decided_alike (Err word) first second alike = ap (λ room. record { reply = (refusing room word).reply; verdict = (refusing room word).verdict; room = room }) (room_once room)
  decided_alike (Ok x) first second alike = alike x

  -- what a station decides of a job, whatever its device is found to be
  station_alike : {D : Type 0} (found : Result D Word) (number : ℕ) (it : D → Act) →
      and_then found (λ device. by_word (act_on (hidden_room room) number (λ _. it device))) ≡ and_then found (λ device. by_word (act_on room number (λ _. it device)))
  station_alike (Err word) number it = refl
  station_alike (Ok device) number it = ap by_word (act_hidden room number (λ _. it device) (λ _. it device) (λ _. refl))

  start_alike : (at : PlainStation) (number : ℕ) → StepAlike (start_told (hidden_room room) number (station_start (hidden_room room) at number)) (start_told room number (station_start room at number))
  start_alike at number =
      ap (λ decided. hidden_step (start_told (hidden_room room) number decided)) (station_alike (ready_device (get at.devices at.device)) number (λ (ready : Device). StationStart at.device ready.rate at.now))
      ∙ decided_alike (station_start room at number)
      (λ standing. record { reply = reply.Documents (map (part_of standing.copies) (documents_of room number)); verdict = line_done; room = with_moved (hidden_room room) number standing })
      (λ standing. record { reply = reply.Documents (map (part_of standing.copies) (documents_of room number)); verdict = line_done; room = with_moved room number standing })
      (λ standing. replying_alike (reply.Documents (map (part_of standing.copies) (documents_of room number))) line_done (with_moved (hidden_room room) number standing) (with_moved room number standing) (moved_hidden room number standing))

  settled_alike : (now number : ℕ) (standing : Standing) →
      StepAlike (telling (with_moved (hidden_room room) number standing) (Settled standing.charged (left_in (with_moved (hidden_room room) number standing) now))) (telling (with_moved room number standing) (Settled standing.charged (left_in (with_moved room number standing) now)))
  settled_alike now number standing =
      let rooms = moved_hidden room number standing in
      let left = left_alike (with_moved (hidden_room room) number standing) (with_moved room number standing) now rooms in
      λ i. record { reply = reply.Line (success_text (Settled standing.charged (left i))); verdict = line_done; room = rooms i }

  settle_alike : (at : PlainStation) (now number impressions : ℕ) (failed : Bool) → StepAlike (settling_told (hidden_room room) now number (station_settle (hidden_room room) at number impressions failed)) (settling_told room now number (station_settle room at number impressions failed))
  settle_alike at now number impressions failed =
      ap (λ decided. hidden_step (settling_told (hidden_room room) now number decided)) (station_alike (known_device (get at.devices at.device)) number (λ _. StationSettle at.device impressions failed at.now))
      ∙ decided_alike (station_settle room at number impressions failed)
      (λ standing. let after = with_moved (hidden_room room) number standing in telling after (Settled standing.charged (left_in after now)))
      (λ standing. let after = with_moved room number standing in telling after (Settled standing.charged (left_in after now)))
      (settled_alike now number)

  granted_alike : (month pages : ℕ) → StepAlike (granted (hidden_room room) month pages) (granted room month pages)
  granted_alike month pages =
      decided_alike (grant_refusal (get room.grants month) pages) (λ _. telling (with_grant (hidden_room room) month pages) success.Ok) (λ _. telling (with_grant room month pages) success.Ok) (λ _.
      replying_alike (reply.Line (success_text success.Ok)) line_done (with_grant (hidden_room room) month pages) (with_grant room month pages) (grant_hidden room month pages))

  -- each event but a release
  pub answered_alike : (devices : Devices) (now : ℕ) (account : List ℕ) (event : AccountEvent) → is_release event ≡ false → StepAlike (answered_open (hidden_room room) devices now (OfAccount account event)) (answered_open room devices now (OfAccount account event))
  answered_alike devices now account Open other = replying_alike (reply.Line (word_text Exists)) (line_refused Exists) (hidden_room room) room (room_once room)
  answered_alike devices now account (Ipp body) other =
      requested_alike (nat_lt (length body) header_length) (responded_to (hidden_room room) devices account now (header_in body) (ask_of account body)) (responded_to room devices account now (header_in body) (ask_of account body))
      (read_alike room devices account now (header_in body) (ask_of account body))
  answered_alike devices now account (Release device job password impressions) other = absurd cc
  answered_alike devices now account (Start device job) other = start_alike (station devices device now) job
  answered_alike devices now account (Settle device job impressions failed) other = settle_alike (station devices device now) now job impressions failed
  answered_alike devices now account (Grant month pages) other = granted_alike month pages
