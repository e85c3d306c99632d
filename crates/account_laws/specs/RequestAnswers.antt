-- What each request is answered, by what was told before it (RFC 8011 sections 4.2 and 4.3; words,
-- limits and what each refusal is for are this project's own).
use Rattle.std.specs.Prelude.{if◌then◌else◌, ◌≡◌, ℕ, ◌==◌, true, not, ◌&&◌, ◌||◌, nat_le, nat_lt, List, [], ◌∷◌, ◌++◌, length, Option, Some, None, Result, Ok, Err}
use Rattle.std.specs.FinMap.{get}
use Rattle.std.specs.Option.{option_map_or}
use Rattle.ipp_coding.specs.Limits.{header_length}
use Rattle.ipp_coding.specs.Plain.{PlainGroup}
use Rattle.ipp_coding.specs.Reading.{header_in}
use Rattle.ipp_coding.specs.declared.message.Header.{Header}
use Rattle.account_asks.specs.Asks.{PlainAsk, PlainRefusal, ask_of}
use Rattle.account_asks.specs.declared.operation.Operation.{Operation}
use Rattle.account_asks.specs.declared.operation.Operation.TheVariants.{PrintJob, ValidateJob, CreateJob, SendDocument, CancelJob, GetJobAttributes, GetJobs, GetPrinterAttributes, HoldJob, ReleaseJob}
use Rattle.account_machine.specs.Events.{OfAccount, Ipp}
use Rattle.account_machine.specs.declared.event.Reply.{Reply}
use Rattle.account_machine.specs.declared.event.Reply.TheVariants as reply
use Rattle.account_laws.specs.AccountsTold.{AccountTold, account_told, left_told, unfinished_told}
use Rattle.account_laws.specs.DoneAnswers.{groups_told}
use Rattle.account_laws.specs.JobsTold.{JobTold, is_over, is_printing, is_stopping, need_told}
use Rattle.account_lives.specs.Lives.{Life, OfLives}
use Rattle.account_laws.specs.Refusals.{Check, first_refusal}
use Rattle.account_laws.specs.StationAnswers.{is_past, is_waiting}
use Rattle.account_replies.specs.Responses.{done_text, refused_text}
use Rattle.account_rules.specs.declared.refusal.Refusal.{Refusal}
use Rattle.account_rules.specs.declared.refusal.Word.{Word}
use Rattle.account_rules.specs.declared.refusal.Word.TheVariants.{Closed, Ended, ImpressionsUnknown, Incomplete, NoJob, NotAccepting, Password, Printing, Quota, Stopping, TooManyDocuments}

-- ---- a new job

-- An account has 100 jobs at most that have not ended, and 999999 numbers: else it is told
-- server-error-not-accepting-jobs (RFC 8011 section B.1.5.7).
abbrev pub new_job_checks : AccountTold → List (Check Refusal)
new_job_checks told = (
  nat_le 100 (unfinished_told told) || nat_lt 999999 told.next,
  record { status = 0x0506; word = NotAccepting },
)
    ∷ []

-- ---- a job that is there

-- client-error-not-possible (RFC 8011 section B.1.4.5)
abbrev pub not_possible : Word → Refusal
not_possible word = record { status = 0x0404; word = word }

-- client-error-not-found (section B.1.4.7)
abbrev pub of_its_job :
    (told : AccountTold) (number : ℕ) (checks : JobTold → List (Check Refusal))
    → List (Check Refusal)
of_its_job told number checks =
    option_map_or checks (get told.jobs number)
    ((true, record { status = 0x0406; word = NoJob }) ∷ [])

-- A job takes documents until it is closed or released, and 8 of them
-- (server-error-multiple-document-jobs-not-supported, section B.1.5.10).
abbrev pub document_checks : PlainAsk → JobTold → List (Check Refusal)
document_checks ask job =
    (not (is_waiting job.stage && job.is_open), not_possible Closed)
    ∷ (
      not (length ask.payload == 0) && nat_le 8 (length job.documents),
      record { status = 0x0509; word = TooManyDocuments },
    )
    ∷ []

-- one that is printed can be canceled once
abbrev pub cancel_checks : JobTold → List (Check Refusal)
cancel_checks job =
    (is_over job.stage, not_possible Ended)
    ∷ (is_stopping job.stage, not_possible Stopping)
    ∷ []

abbrev pub hold_checks : JobTold → List (Check Refusal)
hold_checks job =
    (is_over job.stage, not_possible Ended)
    ∷ (is_printing job.stage, not_possible Printing)
    ∷ []

-- One that was released stays so. One that waits has to be closed and to have a document, to have
-- no password and known impressions; and what it needs at rate 1 has to be left.
abbrev pub owner_release_checks : (told : AccountTold) (now : ℕ) → JobTold → List (Check Refusal)
owner_release_checks told now job =
    let need = need_told job.impressions 1 job in
    let waits = is_waiting job.stage in
    (is_over job.stage, not_possible Ended)
    ∷ (waits && (job.is_open || length job.documents == 0), not_possible Incomplete)
    ∷ (waits && not (length job.maker.password == 0), not_possible Password)
    ∷ (waits && job.impressions == 0, not_possible ImpressionsUnknown)
    ∷ (waits && is_past need (left_told told now), not_possible (Quota need (left_told told now)))
    ∷ []

-- ---- each operation

abbrev pub operation_checks :
    (told : AccountTold) (now : ℕ) (ask : PlainAsk) → Operation → List (Check Refusal)
operation_checks told now ask PrintJob = new_job_checks told
operation_checks told now ask ValidateJob = new_job_checks told
operation_checks told now ask CreateJob = new_job_checks told
operation_checks told now ask SendDocument = of_its_job told ask.job (document_checks ask)
operation_checks told now ask CancelJob = of_its_job told ask.job cancel_checks
operation_checks told now ask GetJobAttributes = of_its_job told ask.job (λ _. [])
operation_checks told now ask GetJobs = []
operation_checks told now ask GetPrinterAttributes = []
operation_checks told now ask HoldJob = of_its_job told ask.job hold_checks
operation_checks told now ask ReleaseJob =
    of_its_job told ask.job (owner_release_checks told now)

-- ---- the law

-- a request that passes the checks of requests: it is refused for the first of these, or done
abbrev pub answer_of : (ask : PlainAsk) (groups : List PlainGroup) → Option Refusal → Reply
answer_of ask groups None = reply.Ipp (done_text ask.header ask.unsupported groups)
answer_of ask groups (Some refusal) =
    reply.Ipp (refused_text ask.header refusal ask.unsupported)

-- one that does not is refused as it is read
abbrev pub answer_as_read :
    (told : AccountTold) (now : ℕ) (account : List ℕ) (header : Header)
    → Result PlainAsk PlainRefusal → Reply
answer_as_read told now account header (Err refused) =
    reply.Ipp (refused_text header refused.refusal refused.unsupported)
answer_as_read told now account header (Ok ask) =
    answer_of ask (groups_told told account now ask ask.operation)
    (first_refusal (operation_checks told now ask ask.operation))

-- bytes that end within a header are no request, and an account that was not opened has no queue
abbrev pub request_answer : (told : AccountTold) (now : ℕ) (account body : List ℕ) → Reply
request_answer told now account body =
    if nat_lt (length body) header_length then reply.Short
    else option_map_or
    (λ _. answer_as_read told now account (header_in body) (ask_of account body))
    told.opened
    reply.NoAccount

-- so it is answered, wherever it stands in a life
abbrev pub RequestsAreAnswered : Type 0
RequestsAreAnswered = OfLives (λ life.
    (past later : Life) (now : ℕ) (account body : List ℕ) (said : Reply)
    → life ≡ past ++ ((now, OfAccount account (Ipp body)), said) ∷ later
    → said ≡ request_answer (account_told past) now account body)
