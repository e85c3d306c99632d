-- Rule: One account's answer to one event, what that came to, and its room afterwards.
use Rattle.std.specs.Prelude.{ℕ, nat_lt, if◌then◌else◌, List, length, Option, Some, None, Result, Ok, Err}
use Rattle.ipp_coding.specs.declared.message.Header.{Header}
use Rattle.ipp_coding.specs.Limits.{header_length}
use Rattle.ipp_coding.specs.Reading.{header_in}
use Rattle.account_replies.specs.Responses.{refused_text}
use Rattle.account_asks.specs.declared.operation.Operation.{Operation}
use Rattle.account_asks.specs.declared.operation.Operation.TheVariants.{PrintJob, ValidateJob, CreateJob, SendDocument, CancelJob, GetJobAttributes, GetJobs, GetPrinterAttributes, HoldJob, ReleaseJob}
use Rattle.account_asks.specs.Asks.{PlainAsk, PlainRefusal, ask_of}
use Rattle.account_machine.specs.Events.{PlainEvent, OfAccount, OfDevice, Open, Ipp, Release, Start, Settle, Grant}
use Rattle.account_machine.specs.declared.event.Reply.{Reply}
use Rattle.account_machine.specs.declared.event.Reply.TheVariants as reply
use Rattle.account_machine.specs.declared.verdict.Verdict.{Verdict}
use Rattle.account_machine.specs.declared.verdict.Verdict.TheVariants.{Refused}
use Rattle.account_machine.specs.Verdicts.{line_done, line_refused, short_refused}
use Rattle.account_machine.specs.Grants.{granted}
use Rattle.account_machine.specs.JobRequests.{job_shown, cancel_of, hold_of, release_of, acted, sent}
use Rattle.account_machine.specs.NewJobs.{made, validated}
use Rattle.account_machine.specs.Printers.{printer_shown}
use Rattle.account_machine.specs.Queues.{listed}
use Rattle.account_machine.specs.Requests.{Response}
use Rattle.account_machine.specs.Stations.{station, station_release, release_told, station_start, start_told, station_settle, settling_told}
use Rattle.account_machine.specs.Steps.{Step, refusing}
use Rattle.account_rules.specs.declared.refusal.Word.TheVariants.{NoAccount, Exists}
use Rattle.account_rules.specs.Devices.{Devices}
use Rattle.account_state.specs.Rooms.{RoomValue, empty_room}
use Rattle.account_replies.specs.declared.station_line.Success.TheVariants as success
use Rattle.account_replies.specs.Lines.{success_text}
use Rattle.account_replies.specs.Words.{word_text}

-- ---- an IPP request

abbrev pub responded :
    (room : RoomValue) (devices : Devices) (account : List ℕ) (now : ℕ) (ask : PlainAsk)
    (operation : Operation) →
    Response
responded room devices account now ask PrintJob = made room account now ask
responded room devices account now ask ValidateJob = validated room ask
responded room devices account now ask CreateJob = made room account now ask
responded room devices account now ask SendDocument = sent room account now ask
responded room devices account now ask CancelJob = acted room ask (cancel_of room now ask)
responded room devices account now ask GetJobAttributes = job_shown room account now ask
responded room devices account now ask GetJobs = listed room account now ask
responded room devices account now ask GetPrinterAttributes =
    printer_shown room devices account now ask
responded room devices account now ask HoldJob = acted room ask (hold_of room ask)
responded room devices account now ask ReleaseJob = acted room ask (release_of room now ask)

-- the checks that need no room come first
abbrev pub responded_to :
    (room : RoomValue) (devices : Devices) (account : List ℕ) (now : ℕ) (header : Header)
    (read : Result PlainAsk PlainRefusal) →
    Response
responded_to room devices account now header (Err refused) = record {
  text = refused_text header refused.refusal refused.unsupported;
  verdict = Refused refused.refusal None;
  room = room;
}
responded_to room devices account now header (Ok ask) =
    responded room devices account now ask ask.operation

abbrev pub requested :
    (room : RoomValue) (devices : Devices) (now : ℕ) (account body : List ℕ) →
    Step
requested room devices now account body =
    let response = responded_to room devices account now (header_in body) (ask_of account body) in
    if nat_lt (length body) header_length
    then record { reply = reply.Short; verdict = short_refused; room = room }
    else record {
      reply = reply.Ipp response.text;
      verdict = response.verdict;
      room = response.room;
    }

-- ---- an account that is open. A device's own event is of no account

abbrev pub answered_open :
    (room : RoomValue) (devices : Devices) (now : ℕ) (e : PlainEvent) →
    Step
answered_open room devices now (OfAccount account Open) = refusing room Exists
answered_open room devices now (OfAccount account (Ipp body)) =
    requested room devices now account body
answered_open room devices now (OfAccount account (Release device job password impressions)) =
    release_told room now job
    (station_release room (station devices device now) job password impressions)
answered_open room devices now (OfAccount account (Start device job)) =
    start_told room job (station_start room (station devices device now) job)
answered_open room devices now (OfAccount account (Settle device job impressions failed)) =
    settling_told room now job
    (station_settle room (station devices device now) job impressions failed)
answered_open room devices now (OfAccount account (Grant month pages)) = granted room month pages
answered_open room devices now (OfDevice device it) =
    record { reply = reply.NoAccount; verdict = line_refused NoAccount; room = room }

-- ---- an account that is not

-- a reply, what the event came to, and what room there is after it
pub record Answer : Type 0 where
  pub reply : Reply
  pub verdict : Verdict
  pub room : Option RoomValue

abbrev pub stays_unopened : (said : Reply) (verdict : Verdict) → Answer
stays_unopened said verdict = record { reply = said; verdict = verdict; room = None }

abbrev pub answered_unopened : (now : ℕ) (e : PlainEvent) → Answer
answered_unopened now (OfAccount account Open) = record {
  reply = reply.Line (success_text success.Ok);
  verdict = line_done;
  room = Some (empty_room now);
}
answered_unopened now (OfAccount account (Ipp body)) =
    if nat_lt (length body) header_length then stays_unopened reply.Short short_refused
    else stays_unopened reply.NoAccount (line_refused NoAccount)
answered_unopened now (OfAccount account line) =
    stays_unopened (reply.Line (word_text NoAccount)) (line_refused NoAccount)
answered_unopened now (OfDevice device it) =
    stays_unopened reply.NoAccount (line_refused NoAccount)

-- ---- the machine

abbrev pub answered :
    (room : Option RoomValue) (devices : Devices) (now : ℕ) (e : PlainEvent) →
    Answer
answered None devices now e = answered_unopened now e
answered (Some room) devices now e =
    let step = answered_open room devices now e in
    record { reply = step.reply; verdict = step.verdict; room = Some step.room }
