-- Rule: What is printed of an answer (this project's own).
use Rattle.std.specs.Prelude.{◌≡◌, ◌≢◌, ◌⊎◌, ℕ, Bool, true, false, ◌==◌, if◌then◌else◌, List, [], ◌++◌, codes, decimal, is_some, IsTrue, Some}
use Rattle.std.specs.Io.KnownBytes.{Appends}
use Rattle.ipp_coding.specs.Plain.{PlainMessage}
use Rattle.ipp_coding.specs.Reading.{message_of}
use Rattle.ipp_coding.specs.Spelling.{message_spelling}
use Rattle.client_lines.specs.Replies.{Known}
use Rattle.client_operator.specs.Csv.{record_text}
use Rattle.client_operator.specs.Talks.{At, InTurn}
use Rattle.client_owner.specs.declared.asked.Asked.{Asked}
use Rattle.client_owner.specs.declared.asked.Asked.TheVariants as asked_is
use Rattle.client_owner.specs.declared.queue.Queue.{Queue}
use Rattle.client_owner.specs.Answers.{is_success, job_made, reason}
use Rattle.client_owner.specs.Exchanges.{Hears, http_request}
use Rattle.client_owner.specs.Requests.{request}
use Rattle.client_owner.specs.Tables.{ListsJob, head_fields}

-- ---- of a job that was made: its number, and what is left to do

abbrev pub what_is_left : (uri : List ℕ) (number : ℕ) (has_password has_pages : Bool) → List ℕ
what_is_left uri number false true =
    codes "Release it at a station, or: ipp-room release " ++ uri ++ codes " " ++ decimal number
what_is_left uri number false false =
    codes "Release it at a station, and tell there how many pages it has."
what_is_left uri number true true = codes "Release it at a station, with its PIN."
what_is_left uri number true false =
    codes "Release it at a station, with its PIN, and tell there how many pages it has."

abbrev pub job_text : (uri : List ℕ) (number : ℕ) (has_password has_pages : Bool) → List ℕ
job_text uri number has_password has_pages = codes "job " ++ decimal number ++ codes "\n"
    ++ what_is_left uri number has_password has_pages ++ codes "\n"

-- ---- of what was done

abbrev pub IsDone : (uri : List ℕ) → Asked → (now : ℕ) → PlainMessage → (text : List ℕ) → Type 0
IsDone uri (asked_is.Print job) now message text = (number : ℕ) × (job_made message ≡ Some number)
    × (text ≡ job_text uri number (is_some job.password) (is_some job.impressions))
IsDone uri asked_is.Jobs now message text =
    InTurn (ListsJob now) (record_text head_fields) text message.groups
IsDone uri (asked_is.Act act job) now message text = text ≡ codes "ok\n"

-- ---- of what was refused

-- over HTTP: what its status comes to here
abbrev pub status_words : (status : ℕ) → List ℕ
status_words status =
    if status == 404 then codes ": no such account"
    else if status == 413 then codes ": too large"
    else if status == 503 then codes ": no space now"
    else []

abbrev pub http_line : (status : ℕ) → List ℕ
http_line status = codes "HTTP " ++ decimal status ++ status_words status ++ codes "\n"

-- ---- of either

-- whether it was done, and what is printed
abbrev pub TellsMessage : (uri : List ℕ) → Asked → (now : ℕ) → PlainMessage → (done : Bool)
    → (text : List ℕ) → Type 0
TellsMessage uri asked now message true text =
    IsTrue (is_success message.header.code) × IsDone uri asked now message text
TellsMessage uri asked now message false text =
    (is_success message.header.code ≡ false)
    × (word : List ℕ) × (reason message ≡ Some word) × (text ≡ word ++ codes "\n")

abbrev pub TellsIpp : (uri : List ℕ) → Asked → (now : ℕ) → (body : List ℕ) → (done : Bool)
    → (text : List ℕ) → Type 0
TellsIpp uri asked now body done text = (message : PlainMessage)
    × (message_of body ≡ Some message) × TellsMessage uri asked now message done text

-- an answer of IPP where the status is 200, and else a refusal
abbrev pub Tells : (uri : List ℕ) → Asked → (now status : ℕ) → (body : List ℕ) → (done : Bool)
    → (text : List ℕ) → Type 0
Tells uri asked now status body done text =
    ((status ≡ 200) × TellsIpp uri asked now body done text)
    ⊎ ((status ≢ 200) × (done ≡ false) × (text ≡ http_line status))

-- what was sent, what is left to hear, and what was printed
abbrev pub at : (sent left printed : Known) → At
at sent left printed = record { sent = sent; left = left; printed = printed }

-- the request was sent, its answer heard, and what that tells was printed
pub record Performs (queue : Queue) (asked : Asked) (now : ℕ) (done : Bool) (from to : At) : Type 0 where
  pub status : ℕ
  pub body : List ℕ
  pub text : List ℕ
  pub sent : Appends from.sent to.sent
      (http_request queue (message_spelling (request queue.uri.now asked)))
  pub heard : Hears from.left to.left status body
  pub tells : Tells queue.uri.now asked now status body done text
  pub printed : Appends from.printed to.printed text
