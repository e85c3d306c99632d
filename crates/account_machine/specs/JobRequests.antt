-- Rule: The requests about one job (RFC 8011 section 4.3). Whether it is there is asked first, then
-- the table of states (Moves of account_rules).
use Rattle.std.specs.Prelude.{ℕ, ◌+◌, Bool, not, ◌==◌, if◌then◌else◌, List, [], ◌∷◌, length, Option, Some, None, Result}
use Rattle.account_asks.specs.Asks.{PlainAsk}
use Rattle.account_machine.specs.JobActs.{job_in, act_on}
use Rattle.account_machine.specs.Steps.{with_moved}
use Rattle.account_machine.specs.Requests.{Response, refusing_ask_or, doing_ask, asked_at}
use Rattle.account_machine.specs.NewJobs.{made_names}
use Rattle.account_rules.specs.Acts.{SendDocument, CancelJob, HoldJob, ReleaseJob}
use Rattle.account_rules.specs.declared.job.Document.{Document}
use Rattle.account_rules.specs.declared.job.Job.{Job}
use Rattle.account_rules.specs.declared.job.Standing.{Standing}
use Rattle.account_rules.specs.declared.refusal.Refusal.{Refusal}
use Rattle.account_rules.specs.Moves.{move}
use Rattle.account_state.specs.Changes.{with_standing}
use Rattle.account_state.specs.Rooms.{RoomValue}
use Rattle.account_state.specs.Sums.{left_in}
use Rattle.account_replies.specs.JobAttributes.{job_group}

-- ---- Get-Job-Attributes (RFC 8011 section 4.3.4)

abbrev pub job_shown : (room : RoomValue) (account : List ℕ) (now : ℕ) (ask : PlainAsk) → Response
job_shown room account now ask =
    refusing_ask_or room ask (job_in room ask.job) (λ (job : Job).
    doing_ask room ask (job_group (asked_at room.opened account now ask) job ask.wanted ∷ []))

-- ---- Cancel-Job, Hold-Job, Release-Job (RFC 8011 sections 4.3.3, 4.3.5 and 4.3.6)

abbrev pub cancel_of : (room : RoomValue) (now : ℕ) (ask : PlainAsk) → Result Standing Refusal
cancel_of room now ask = act_on room ask.job (λ _. CancelJob now)

abbrev pub hold_of : (room : RoomValue) (ask : PlainAsk) → Result Standing Refusal
hold_of room ask = act_on room ask.job (λ _. HoldJob)

abbrev pub has_password : (job : Job) → Bool
has_password job = not (length job.password == 0)

abbrev pub release_of : (room : RoomValue) (now : ℕ) (ask : PlainAsk) → Result Standing Refusal
release_of room now ask =
    act_on room ask.job (λ (job : Job). ReleaseJob (has_password job) (left_in room now))

abbrev pub acted :
    (room : RoomValue) (ask : PlainAsk) (decided : Result Standing Refusal) →
    Response
acted room ask decided =
    refusing_ask_or room ask decided (λ (standing : Standing).
    doing_ask (with_moved room ask.job standing) ask [])

-- ---- Send-Document (RFC 8011 section 4.3.1)

abbrev pub has_data : (ask : PlainAsk) → Bool
has_data ask = not (length ask.payload == 0)

-- data is the job's next document
abbrev pub sent_document : (ask : PlainAsk) (job : Job) → Option Document
sent_document ask job =
    if has_data ask then Some (record {
      job = ask.job;
      number = job.standing.documents + 1;
      format = ask.format;
      bytes = ask.payload;
    })
    else None

-- the job stands so, and has the document
abbrev pub document_taken :
    (room : RoomValue) (account : List ℕ) (now : ℕ) (ask : PlainAsk) (job : Job)
    (standing : Standing) →
    Response
document_taken room account now ask job standing =
    let at = asked_at room.opened account now ask in
    doing_ask (with_standing room ask.job standing (sent_document ask job)) ask
    (job_group at (record job { standing = standing }) made_names ∷ [])

abbrev pub sent : (room : RoomValue) (account : List ℕ) (now : ℕ) (ask : PlainAsk) → Response
sent room account now ask =
    refusing_ask_or room ask (job_in room ask.job) (λ (job : Job).
    refusing_ask_or room ask (move (SendDocument ask.last (has_data ask)) job.standing)
    (document_taken room account now ask job))
