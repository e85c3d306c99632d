-- Each reply tells in its bytes what the event came to.
use Rattle.std.proofs.Common.{◌≡◌, ℕ, Bool, true, false, cond, nat_lt, List, [], ◌∷◌, length, Option, Some, None, Result, Ok, Err, refl}
use Rattle.std.specs.FinMap.{contains_key, get, values}
use Rattle.ipp_coding.specs.Limits.{header_length}
use Rattle.ipp_coding.specs.Plain.{PlainAttribute, PlainGroup}
use Rattle.ipp_coding.specs.Reading.{header_in}
use Rattle.ipp_coding.specs.declared.message.Header.{Header}
use Rattle.account_asks.specs.Asks.{PlainAsk, PlainRefusal, ask_of}
use Rattle.account_asks.specs.declared.operation.Operation.{Operation}
use Rattle.account_asks.specs.declared.operation.Operation.TheVariants as asks
use Rattle.account_laws.proofs.RefusalTexts.{text_alike}
use Rattle.account_laws.specs.AnswerMessages.{done_code}
use Rattle.account_laws.specs.VerdictsTold.{AccountsAreToldVerdicts, DevicesAreToldVerdicts, NamesJob, ReplyTells, ResponseTells, VerdictsNameJobs}
use Rattle.account_lives.proofs.LifeLemmas.{unopened_answer}
use Rattle.account_machine.specs.DeviceEvents.{DeviceAnswer}
use Rattle.account_machine.specs.Events.{PlainEvent, OfAccount, OfDevice, Open, Ipp, Release, Start, Settle, Grant, Switch, Rate}
use Rattle.account_machine.specs.JobActs.{job_in}
use Rattle.account_machine.specs.JobRequests.{cancel_of, document_taken, has_data, hold_of, release_of}
use Rattle.account_machine.specs.Machine.{Answer, answered_open, responded, responded_to}
use Rattle.account_machine.specs.NewJobs.{accepts, made_names, new_job}
use Rattle.account_machine.specs.Printers.{printer_of}
use Rattle.account_machine.specs.Queues.{asked_jobs, listed_names}
use Rattle.account_machine.specs.Requests.{Response, asked_at, done_with, refusing_ask_or}
use Rattle.account_machine.specs.Stations.{station, station_release, station_settle, station_start}
use Rattle.account_machine.specs.Steps.{Step, refusing_or, with_moved}
use Rattle.account_machine.specs.Verdicts.{line_done, line_refused, short_refused}
use Rattle.account_machine.specs.declared.event.Reply.TheVariants as reply
use Rattle.account_replies.specs.Grants.{grant_refusal}
use Rattle.account_replies.specs.JobAttributes.{job_group}
use Rattle.account_replies.specs.Lines.{success_text}
use Rattle.account_replies.specs.PrinterAttributes.{printer_group}
use Rattle.account_replies.specs.Responses.{job_groups, success_status}
use Rattle.account_replies.specs.Words.{word_text}
use Rattle.account_replies.specs.declared.station_line.Success.TheVariants.{Released, Settled}
use Rattle.account_replies.specs.declared.station_line.Success.TheVariants as success
use Rattle.account_rules.specs.Acts.{SendDocument}
use Rattle.account_rules.specs.Devices.{Devices, rated}
use Rattle.account_rules.specs.Moves.{move}
use Rattle.account_rules.specs.declared.job.Job.{Job}
use Rattle.account_rules.specs.declared.job.Standing.{Standing}
use Rattle.account_rules.specs.declared.refusal.Refusal.{Refusal}
use Rattle.account_rules.specs.declared.refusal.Word.{Word}
use Rattle.account_rules.specs.declared.refusal.Word.TheVariants.{NoDevice}
use Rattle.account_state.specs.Rooms.{RoomValue}
use Rattle.account_state.specs.Sums.{left_in}

-- ---- requests

abbrev Responds : Response → Type 0
Responds response = ResponseTells response.text response.verdict

ask_tells : {A : Type 0} (room : RoomValue) (ask : PlainAsk) (decided : Result A Refusal) (next : A → Response) → ((x : A) → Responds (next x)) → Responds (refusing_ask_or room ask decided next)
ask_tells room ask (Err refusal) next tells = (ask.header, ask.unsupported, refl)
ask_tells room ask (Ok x) next tells = tells x

same_status : (unsupported : List PlainAttribute) → success_status unsupported ≡ done_code unsupported
same_status [] = refl
same_status (first ∷ further) = refl

done_tells : (room : RoomValue) (ask : PlainAsk) (number : ℕ) (groups : List PlainGroup) → Responds (done_with room ask number groups)
done_tells room ask number groups = (ask.header, ask.unsupported, groups, refl, same_status ask.unsupported)

module _ (room : RoomValue) (devices : Devices) (account : List ℕ) (now : ℕ) where
  abbrev job_told : (ask : PlainAsk) → Job → Option (List (List ℕ)) → List PlainGroup
  job_told ask job names = job_group (asked_at room.opened account now ask) job names ∷ []

  responds : (ask : PlainAsk) (operation : Operation) → Responds (responded room devices account now ask operation)
  responds ask asks.PrintJob = ask_tells room ask (accepts room) _ (λ _. done_tells room ask room.next (job_told ask (new_job room.next ask now) made_names))
  responds ask asks.ValidateJob = ask_tells room ask (accepts room) _ (λ _. done_tells room ask ask.job [])
  responds ask asks.CreateJob = ask_tells room ask (accepts room) _ (λ _. done_tells room ask room.next (job_told ask (new_job room.next ask now) made_names))
  responds ask asks.SendDocument =
      ask_tells room ask (job_in room ask.job) _ (λ (job : Job).
      ask_tells room ask (move (SendDocument ask.last (has_data ask)) job.standing) (document_taken room account now ask job) (λ (standing : Standing). done_tells room ask ask.job (job_told ask (record job { standing = standing }) made_names)))
  responds ask asks.CancelJob = ask_tells room ask (cancel_of room now ask) _ (λ _. done_tells room ask ask.job [])
  responds ask asks.GetJobAttributes = ask_tells room ask (job_in room ask.job) _ (λ (job : Job). done_tells room ask ask.job (job_told ask job ask.wanted))
  responds ask asks.GetJobs = done_tells room ask ask.job (job_groups (asked_at room.opened account now ask) (asked_jobs ask (values room.jobs)) (listed_names ask.wanted))
  responds ask asks.GetPrinterAttributes = done_tells room ask ask.job (printer_group (asked_at room.opened account now ask) (printer_of room devices) ask.wanted ∷ [])
  responds ask asks.HoldJob = ask_tells room ask (hold_of room ask) _ (λ _. done_tells room ask ask.job [])
  responds ask asks.ReleaseJob = ask_tells room ask (release_of room now ask) _ (λ _. done_tells room ask ask.job [])

  read_responds : (header : Header) (read : Result PlainAsk PlainRefusal) → Responds (responded_to room devices account now header read)
  read_responds header (Ok ask) = responds ask ask.operation
  read_responds header (Err refused) = (header, refused.unsupported, refl)

-- ---- steps

abbrev Tells : Step → Type 0
Tells step = ReplyTells step.reply step.verdict

request_tells : (room : RoomValue) (response : Response) → Responds response → (short : Bool)
    → Tells (cond short (record { reply = reply.Short; verdict = short_refused; room = room }) (record { reply = reply.Ipp response.text; verdict = response.verdict; room = response.room }))
request_tells room response tells true = refl
request_tells room response tells false = tells

line_tells : {A : Type 0} (room : RoomValue) (decided : Result A Word) (next : A → Step) → ((x : A) → Tells (next x)) → Tells (refusing_or room decided next)
line_tells room (Err word) next tells = (text_alike word, refl, refl)
line_tells room (Ok x) next tells = tells x

open_tells : (room : RoomValue) (devices : Devices) (now : ℕ) (e : PlainEvent) → Tells (answered_open room devices now e)
open_tells room devices now (OfAccount account Open) = (refl, refl, refl)
open_tells room devices now (OfAccount account (Ipp body)) =
    request_tells room (responded_to room devices account now (header_in body) (ask_of account body)) (read_responds room devices account now (header_in body) (ask_of account body)) (nat_lt (length body) header_length)
open_tells room devices now (OfAccount account (Release device job password impressions)) =
    line_tells room (station_release room (station devices device now) job password impressions) _ (λ (standing : Standing). (Released standing.reserved (left_in (with_moved room job standing) now), refl, refl, refl))
open_tells room devices now (OfAccount account (Start device job)) = line_tells room (station_start room (station devices device now) job) _ (λ _. refl)
open_tells room devices now (OfAccount account (Settle device job impressions failed)) =
    line_tells room (station_settle room (station devices device now) job impressions failed) _ (λ (standing : Standing). (Settled standing.charged (left_in (with_moved room job standing) now), refl, refl, refl))
open_tells room devices now (OfAccount account (Grant month pages)) = line_tells room (grant_refusal (get room.grants month) pages) _ (λ _. (success.Ok, refl, refl, refl))
open_tells room devices now (OfDevice device it) = refl

-- ---- the laws

abbrev TellsAnswer : Answer → Type 0
TellsAnswer answer = ReplyTells answer.reply answer.verdict

unopened_tells : (short : Bool) → TellsAnswer (unopened_answer short)
unopened_tells true = refl
unopened_tells false = refl

pub accounts_are_told_verdicts : AccountsAreToldVerdicts
accounts_are_told_verdicts (Some room) devices now e = open_tells room devices now e
accounts_are_told_verdicts None devices now (OfAccount account Open) = (success.Ok, refl, refl, refl)
accounts_are_told_verdicts None devices now (OfAccount account (Ipp body)) = unopened_tells (nat_lt (length body) header_length)
accounts_are_told_verdicts None devices now (OfAccount account (Release device job password impressions)) = (refl, refl, refl)
accounts_are_told_verdicts None devices now (OfAccount account (Start device job)) = (refl, refl, refl)
accounts_are_told_verdicts None devices now (OfAccount account (Settle device job impressions failed)) = (refl, refl, refl)
accounts_are_told_verdicts None devices now (OfAccount account (Grant month pages)) = (refl, refl, refl)
accounts_are_told_verdicts None devices now (OfDevice device it) = refl

abbrev TellsOfDevice : DeviceAnswer → Type 0
TellsOfDevice answer = ReplyTells answer.reply answer.verdict

rate_tells : (devices : Devices) (name : List ℕ) (units : ℕ) (known : Bool)
    → TellsOfDevice (cond known (record { reply = reply.Line (success_text success.Ok); verdict = line_done; devices = rated devices name units }) (record { reply = reply.Line (word_text NoDevice); verdict = line_refused NoDevice; devices = devices }))
rate_tells devices name units true = (success.Ok, refl, refl, refl)
rate_tells devices name units false = (refl, refl, refl)

pub devices_are_told_verdicts : DevicesAreToldVerdicts
devices_are_told_verdicts devices (OfDevice device (Switch on)) = (success.Ok, refl, refl, refl)
devices_are_told_verdicts devices (OfDevice device (Rate units)) = rate_tells devices device units (contains_key devices device)
devices_are_told_verdicts devices (OfAccount account it) = refl

-- ---- which job a verdict names

abbrev Names : RoomValue → PlainAsk → Operation → Response → Type 0
Names room ask operation response = NamesJob room.next (Ok (record ask { operation = operation })) response.verdict

ask_names : {A : Type 0} (room : RoomValue) (ask : PlainAsk) (operation : Operation) (decided : Result A Refusal) (next : A → Response) → ((x : A) → Names room ask operation (next x)) → Names room ask operation (refusing_ask_or room ask decided next)
ask_names room ask operation (Err refusal) next names = refl
ask_names room ask operation (Ok x) next names = names x

module _ (room : RoomValue) (devices : Devices) (account : List ℕ) (now : ℕ) where
  names : (ask : PlainAsk) (operation : Operation) → Names room ask operation (responded room devices account now ask operation)
  names ask asks.PrintJob = ask_names room ask asks.PrintJob (accepts room) _ (λ _. refl)
  names ask asks.ValidateJob = ask_names room ask asks.ValidateJob (accepts room) _ (λ _. refl)
  names ask asks.CreateJob = ask_names room ask asks.CreateJob (accepts room) _ (λ _. refl)
  names ask asks.SendDocument =
      ask_names room ask asks.SendDocument (job_in room ask.job) _ (λ (job : Job).
      ask_names room ask asks.SendDocument (move (SendDocument ask.last (has_data ask)) job.standing) (document_taken room account now ask job) (λ (standing : Standing). refl))
  names ask asks.CancelJob = ask_names room ask asks.CancelJob (cancel_of room now ask) _ (λ _. refl)
  names ask asks.GetJobAttributes = ask_names room ask asks.GetJobAttributes (job_in room ask.job) _ (λ (job : Job). refl)
  names ask asks.GetJobs = refl
  names ask asks.GetPrinterAttributes = refl
  names ask asks.HoldJob = ask_names room ask asks.HoldJob (hold_of room ask) _ (λ _. refl)
  names ask asks.ReleaseJob = ask_names room ask asks.ReleaseJob (release_of room now ask) _ (λ _. refl)

  read_names : (header : Header) (read : Result PlainAsk PlainRefusal) → NamesJob room.next read (responded_to room devices account now header read).verdict
  read_names header (Ok ask) = names ask ask.operation
  read_names header (Err refused) = refl

named_unless_short : (room : RoomValue) (read : Result PlainAsk PlainRefusal) (response : Response) (text : List ℕ) → NamesJob room.next read response.verdict → (short : Bool)
    → let step : Step = cond short (record { reply = reply.Short; verdict = short_refused; room = room }) (record { reply = reply.Ipp response.text; verdict = response.verdict; room = response.room }) in
    step.reply ≡ reply.Ipp text → NamesJob room.next read step.verdict
named_unless_short room read response text is true said = let no : ⊥ = cc in absurd no
named_unless_short room read response text is false said = is

pub verdicts_name_jobs : VerdictsNameJobs
verdicts_name_jobs room devices now account body text said =
    named_unless_short room (ask_of account body) (responded_to room devices account now (header_in body) (ask_of account body)) text (read_names room devices account now (header_in body) (ask_of account body)) (nat_lt (length body) header_length) said
