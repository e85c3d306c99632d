-- Rule: The lines of the log (all this project's own). One space parts their fields. No password is
-- among them, and no name of a job.
use Rattle.std.specs.Prelude.{ℕ, ◌+◌, ◌/◌, ◌%◌, Bool, ◌&&◌, nat_le, if◌then◌else◌, List, ◌++◌, codes, length, map, take, [], ◌∷◌, Option, Result, Ok, Err}
use Rattle.std.specs.Fmt.{decimal}
use Rattle.account_machine.specs.declared.event.Reply.{Reply}
use Rattle.account_machine.specs.declared.event.Reply.TheVariants as reply_is
use Rattle.account_machine.specs.declared.verdict.Answered.{Answered}
use Rattle.account_machine.specs.declared.verdict.Verdict.{Verdict}
use Rattle.account_machine.specs.declared.verdict.Verdict.TheVariants.{Done, Refused}
use Rattle.account_machine.specs.Events.{PlainEvent, OfAccount, OfDevice, Open, Ipp, Release, Start, Settle, Grant, Switch, Rate}
use Rattle.account_replies.specs.Words.{word_text}
use Rattle.serve_log.specs.IppWords.{code_text, job_field, operation_field, success_word}
use Rattle.serve_log.specs.RequestJobs.{job_of}
use Rattle.serve_log.specs.declared.door.Door.{Door}
use Rattle.serve_log.specs.declared.door.Door.TheVariants as door_is
use Rattle.serve_log.specs.declared.refusal.LineRefusal.{LineRefusal}
use Rattle.serve_log.specs.declared.refusal.LineRefusal.TheVariants.{BadLine, NotYourDevice}

-- ---- the door; at the desk an operator has a name

abbrev pub door_word : Door → List ℕ
door_word door_is.Clients = codes "clients"
door_word door_is.Stations = codes "stations"
door_word door_is.Operators = codes "operators"
door_word (door_is.Desk operator) = codes "desk:" ++ operator

-- ---- what was asked

abbrev pub word_of : (on : Bool) (one other : List ℕ) → List ℕ
word_of on one other = if on then one else other

-- the last two digits of a number
abbrev pub two_digits : ℕ → List ℕ
two_digits number = (48 + number / 10 % 10) ∷ (48 + number % 10) ∷ []

-- the last four digits of a number
abbrev pub four_digits : ℕ → List ℕ
four_digits number = two_digits (number / 100) ++ two_digits number

-- a month is the year times 12, and 0 for January to 11 for December
abbrev pub month_text : ℕ → List ℕ
month_text month = four_digits (month / 12) ++ codes "-" ++ two_digits (month % 12 + 1)

-- the device that asks, what it asks for, whose job and which
abbrev pub act_fields : (device act account : List ℕ) (job : ℕ) → List ℕ
act_fields device act account job =
    device ++ codes " " ++ act ++ codes " " ++ account ++ codes " " ++ decimal job

abbrev pub settle_fields :
    (device account : List ℕ) (job impressions : ℕ) (failed : Bool) → List ℕ
settle_fields device account job impressions failed =
    act_fields device (codes "settle") account job ++ codes " "
    ++ decimal impressions ++ codes " " ++ word_of failed (codes "failed") (codes "done")

abbrev pub grant_fields : (account : List ℕ) (month pages : ℕ) → List ℕ
grant_fields account month pages =
    codes "grant " ++ account ++ codes " " ++ month_text month ++ codes " " ++ decimal pages

abbrev pub ipp_fields : (account body : List ℕ) (job : Option ℕ) → List ℕ
ipp_fields account body job =
    account ++ codes " " ++ operation_field body ++ codes " " ++ job_field job

abbrev pub request_fields :
    {F : Type 0} → (account body : List ℕ) (told : Result Answered F) → List ℕ
request_fields account body told = ipp_fields account body (job_of account body told)

abbrev pub switch_fields : (device : List ℕ) (on : Bool) → List ℕ
switch_fields device on =
    codes "device " ++ device ++ codes " " ++ word_of on (codes "on") (codes "off")

abbrev pub rate_fields : (device : List ℕ) (units : ℕ) → List ℕ
rate_fields device units = codes "rate " ++ device ++ codes " " ++ decimal units

abbrev pub event_fields : {F : Type 0} → PlainEvent → (told : Result Answered F) → List ℕ
event_fields (OfAccount account Open) told = codes "open " ++ account
event_fields (OfAccount account (Ipp body)) told = request_fields account body told
event_fields (OfAccount account (Release device job password impressions)) told =
    act_fields device (codes "release") account job
event_fields (OfAccount account (Start device job)) told =
    act_fields device (codes "start") account job
event_fields (OfAccount account (Settle device job impressions failed)) told =
    settle_fields device account job impressions failed
event_fields (OfAccount account (Grant month pages)) told = grant_fields account month pages
event_fields (OfDevice device (Switch on)) told = switch_fields device on
event_fields (OfDevice device (Rate units)) told = rate_fields device units

-- ---- what it came to

-- a byte outside of printable ASCII is shown as a question mark
abbrev pub printable_byte : ℕ → ℕ
printable_byte byte = if nat_le 32 byte && nat_le byte 126 then byte else 63

abbrev pub shown : List ℕ → List ℕ
shown text = map printable_byte text

-- the status, and its keyword or the word that tells why
abbrev pub verdict_field : Verdict → List ℕ
verdict_field (Done status job) = code_text status ++ codes " " ++ success_word status
verdict_field (Refused refusal job) =
    code_text refusal.status ++ codes " " ++ word_text refusal.word

abbrev pub answer_field : Reply → Verdict → List ℕ
answer_field (reply_is.Line text) verdict = shown text
answer_field (reply_is.Documents parts) verdict = codes "documents " ++ decimal (length parts)
answer_field (reply_is.Ipp answer) verdict = verdict_field verdict
answer_field reply_is.NoAccount verdict = codes "no-account"
answer_field reply_is.Short verdict = codes "short"

-- `failed` for any error of the store
abbrev pub outcome_field : {F : Type 0} → Result Answered F → List ℕ
outcome_field (Ok it) = answer_field it.reply it.verdict
outcome_field (Err fault) = codes "failed"

-- ---- the line

-- the moment in seconds since 1970-01-01T00:00:00Z
abbrev pub line_text : {F : Type 0} →
    (moment : ℕ) → Door → PlainEvent → (told : Result Answered F) → List ℕ
line_text moment door event told =
    decimal moment ++ codes " " ++ door_word door ++ codes " " ++ event_fields event told
    ++ codes " " ++ outcome_field told ++ codes "\n"

-- ---- what a device counted beyond a release

-- the units of a job's charge beyond what it had reserved, behind the line of its settlement
abbrev pub beyond_text : (moment : ℕ) (device account : List ℕ) (job units : ℕ) → List ℕ
beyond_text moment device account job units =
    decimal moment ++ codes " stations " ++ act_fields device (codes "beyond") account job
    ++ codes " " ++ decimal units ++ codes "\n"

-- ---- what a door refused

-- why a door refused a line, which that line is answered too
abbrev pub line_refusal_word : LineRefusal → List ℕ
line_refusal_word BadLine = codes "bad-line"
line_refusal_word NotYourDevice = codes "not-your-device"

-- of a line nothing is told but why
abbrev pub refused_line_text : (moment : ℕ) → Door → LineRefusal → List ℕ
refused_line_text moment door why =
    decimal moment ++ codes " " ++ door_word door ++ codes " refused "
    ++ line_refusal_word why ++ codes "\n"

-- the first 256 bytes of a path
abbrev pub shown_path : List ℕ → List ℕ
shown_path path = shown (take 256 path)

-- of a request the status of its answer, and its path
abbrev pub refused_request_text : (moment status : ℕ) (path : List ℕ) → List ℕ
refused_request_text moment status path =
    decimal moment ++ codes " clients refused " ++ decimal status ++ codes " "
    ++ shown_path path ++ codes "\n"
