-- What each reply tells in its bytes of what the event came to (all this project's own).
use Rattle.std.specs.Prelude.{◌≡◌, ℕ, ◌==◌, if◌then◌else◌, List, Option, None, Some, Result, Ok, Err}
use Rattle.ipp_coding.specs.Plain.{PlainAttribute, PlainGroup}
use Rattle.ipp_coding.specs.declared.message.Header.{Header}
use Rattle.account_asks.specs.Asks.{PlainAsk, PlainRefusal, ask_of}
use Rattle.account_asks.specs.declared.operation.Operation.{Operation}
use Rattle.account_asks.specs.declared.operation.Operation.TheVariants.{CreateJob, PrintJob}
use Rattle.account_laws.specs.AnswerMessages.{done_code}
use Rattle.account_laws.specs.RefusalTexts.{text_of}
use Rattle.account_machine.specs.DeviceEvents.{device_answered}
use Rattle.account_machine.specs.Events.{Ipp, OfAccount, PlainEvent}
use Rattle.account_machine.specs.Machine.{answered}
use Rattle.account_machine.specs.declared.event.Reply.{Reply}
use Rattle.account_machine.specs.declared.event.Reply.TheVariants as reply
use Rattle.account_machine.specs.declared.verdict.Verdict.{Verdict}
use Rattle.account_machine.specs.declared.verdict.Verdict.TheVariants.{Done, Refused}
use Rattle.account_replies.specs.Lines.{success_text}
use Rattle.account_replies.specs.Responses.{done_text, refused_text}
use Rattle.account_replies.specs.declared.station_line.Success.{Success}
use Rattle.account_rules.specs.Devices.{Devices}
use Rattle.account_rules.specs.declared.refusal.Word.TheVariants.{Malformed, NoAccount}
use Rattle.account_state.specs.Rooms.{RoomValue}

-- a response of a request: that of the refusal, or of a success with this status
abbrev pub ResponseTells : (text : List ℕ) → Verdict → Type 0
ResponseTells text (Refused refusal job) =
    (header : Header) × (unsupported : List PlainAttribute)
    × (text ≡ refused_text header refusal unsupported)
ResponseTells text (Done status job) =
    (header : Header) × (unsupported : List PlainAttribute) × (groups : List PlainGroup)
    × (text ≡ done_text header unsupported groups) × (status ≡ done_code unsupported)

-- a line, which has no job: the word that tells why, as client-error-not-possible, or a success
-- (section B.1.4.5)
abbrev pub LineTells : (text : List ℕ) → Verdict → Type 0
LineTells text (Refused refusal job) =
    (text ≡ text_of refusal.word) × (refusal.status ≡ 0x0404) × (job ≡ None)
LineTells text (Done status job) =
    (success : Success) × (text ≡ success_text success) × (status ≡ 0x0000) × (job ≡ None)

-- documents only where it was done; and each reply without bytes has one refusal, one that is too
-- short client-error-bad-request (section B.1.4.1)
abbrev pub ReplyTells : Reply → Verdict → Type 0
ReplyTells (reply.Ipp text) verdict = ResponseTells text verdict
ReplyTells (reply.Line text) verdict = LineTells text verdict
ReplyTells (reply.Documents parts) verdict = verdict ≡ Done 0x0000 None
ReplyTells reply.NoAccount verdict =
    verdict ≡ Refused (record { status = 0x0404; word = NoAccount }) None
ReplyTells reply.Short verdict =
    verdict ≡ Refused (record { status = 0x0400; word = Malformed }) None

-- ---- which job

-- no job has the number 0
abbrev pub if_numbered : ℕ → Option ℕ
if_numbered number = if number == 0 then None else Some number

-- the one that the request made, with the next number, or the one that it is for
abbrev pub job_done : (next : ℕ) → PlainAsk → Operation → Option ℕ
job_done next ask PrintJob = if_numbered next
job_done next ask CreateJob = if_numbered next
job_done next ask _ = if_numbered ask.job

-- a refusal has that which the request is for, and none where it is refused as it is read
abbrev pub NamesJob : (next : ℕ) → Result PlainAsk PlainRefusal → Verdict → Type 0
NamesJob next (Ok ask) (Done status job) = job ≡ job_done next ask ask.operation
NamesJob next (Ok ask) (Refused refusal job) = job ≡ if_numbered ask.job
NamesJob next (Err refused) verdict = verdict ≡ Refused refused.refusal None

-- ---- the laws

abbrev pub AccountsAreToldVerdicts : Type 0
AccountsAreToldVerdicts = (room : Option RoomValue) (devices : Devices) (now : ℕ) (e : PlainEvent)
    → let answer = answered room devices now e in ReplyTells answer.reply answer.verdict

abbrev pub DevicesAreToldVerdicts : Type 0
DevicesAreToldVerdicts = (devices : Devices) (e : PlainEvent)
    → let answer = device_answered devices e in ReplyTells answer.reply answer.verdict

-- of each response
abbrev pub VerdictsNameJobs : Type 0
VerdictsNameJobs = (room : RoomValue) (devices : Devices) (now : ℕ) (account body text : List ℕ)
    → let answer = answered (Some room) devices now (OfAccount account (Ipp body)) in
    answer.reply ≡ reply.Ipp text → NamesJob room.next (ask_of account body) answer.verdict
