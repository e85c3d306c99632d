-- Two bodies that are read alike are answered alike.
use Rattle.std.proofs.Common.{◌≡◌, ℕ, Bool, true, false, cond, nat_lt, List, [], ◌∷◌, length, Result, Ok, Err, refl, sym, ap, subst, ◌∙◌}
use Rattle.ipp_coding.specs.Limits.{header_length}
use Rattle.ipp_coding.specs.Reading.{header_in}
use Rattle.ipp_coding.specs.declared.message.Header.{Header}
use Rattle.account_asks.specs.Asks.{PlainAsk, PlainRefusal, ask_of}
use Rattle.account_asks.specs.declared.operation.Operation.{Operation}
use Rattle.account_asks.specs.declared.operation.Operation.TheVariants.{PrintJob, CreateJob}
use Rattle.account_machine.specs.Events.{OfAccount, Ipp}
use Rattle.account_machine.specs.Machine.{answered_open, responded, responded_to}
use Rattle.account_machine.specs.NewJobs.{accepts, made, made_names, new_document, new_job}
use Rattle.account_machine.specs.Requests.{Response, asked_at, doing_ask, done_with, refusing_ask_or}
use Rattle.account_machine.specs.Verdicts.{short_refused}
use Rattle.account_machine.specs.declared.event.Reply.TheVariants as reply
use Rattle.account_laws.proofs.HiddenAnswers.{AnswerAlike, StepAlike, hidden_response, hidden_step}
use Rattle.account_laws.proofs.HiddenPasswords.{group_hidden, hidden, same_secrets, secret}
use Rattle.account_laws.proofs.HiddenRooms.{hidden_room}
use Rattle.account_laws.proofs.MappedValues.{insert-with_each, with_each}
use Rattle.std.specs.FinMap.{insert}
use Rattle.account_laws.specs.PasswordsStaySecret.{AreBodiesAlike, AreReadAlike, AskAlike}
use Rattle.account_replies.specs.JobAttributes.{job_group}
use Rattle.account_replies.specs.Places.{PlainPlace}
use Rattle.account_rules.specs.Devices.{Devices}
use Rattle.account_rules.specs.declared.job.Job.{Job}
use Rattle.account_rules.specs.declared.refusal.Refusal.{Refusal}
use Rattle.account_state.specs.Changes.{with_new_job}
use Rattle.account_state.specs.Rooms.{RoomValue}

-- the request with another password
abbrev with_password : PlainAsk → List ℕ → PlainAsk
with_password ask password = record ask { password = password }

module _ (room : RoomValue) (devices : Devices) (account : List ℕ) (now : ℕ) (ask : PlainAsk) (p q : List ℕ) (same : secret p ≡ secret q) where
  abbrev job : List ℕ → Job
  job password = new_job room.next (with_password ask password) now

  same_jobs : hidden (job p) ≡ hidden (job q)
  same_jobs = ap (λ (kept : List ℕ). record (job p) { password = kept }) same

  same_group : (at : PlainPlace) → job_group at (job p) made_names ≡ job_group at (job q) made_names
  same_group at = sym (group_hidden at (job p) made_names) ∙ ap (λ (j : Job). job_group at j made_names) same_jobs ∙ group_hidden at (job q) made_names

  same_after : hidden_room (with_new_job room (job p) (new_document room.next ask)) ≡ hidden_room (with_new_job room (job q) (new_document room.next ask))
  same_after =
      ap (λ jobs. record (with_new_job room (job p) (new_document room.next ask)) { jobs = jobs })
      (insert-with_each hidden room.jobs room.next (job p) ∙ ap (λ (j : Job). insert (with_each hidden room.jobs) room.next j) same_jobs ∙ sym (insert-with_each hidden room.jobs room.next (job q)))

  made_alike : AnswerAlike (made room account now (with_password ask p)) (made room account now (with_password ask q))
  made_alike = by (accepts room)
    where
      at : PlainPlace
      at = asked_at room.opened account now ask

      done : (password : List ℕ) → Response
      done password = done_with (with_new_job room (job password) (new_document room.next ask)) ask room.next (job_group at (job password) made_names ∷ [])

      by : (taken : Result (Unit {0}) Refusal) → AnswerAlike (refusing_ask_or room (with_password ask p) taken (λ _. done p)) (refusing_ask_or room (with_password ask q) taken (λ _. done q))
      by (Ok x) = λ i. record { text = (doing_ask room ask (same_group at i ∷ [])).text; verdict = (done_with room ask room.next []).verdict; room = same_after i }
      by (Err refusal) = refl

  responded_alike : (operation : Operation) → AnswerAlike (responded room devices account now (with_password ask p) operation) (responded room devices account now (with_password ask q) operation)
  responded_alike PrintJob = made_alike
  responded_alike CreateJob = made_alike
  responded_alike _ = refl

module _ (room : RoomValue) (devices : Devices) (account : List ℕ) (now : ℕ) where
  asks_alike : (a b : PlainAsk) → AskAlike a b → AnswerAlike (responded room devices account now a a.operation) (responded room devices account now b b.operation)
  asks_alike a b alike =
      subst (λ (rest : PlainAsk). AnswerAlike (responded room devices account now a a.operation) (responded room devices account now (with_password rest b.password) rest.operation)) alike.rest
      (responded_alike room devices account now (with_password a []) a.password b.password (same_secrets a.password b.password alike.both.0 alike.both.1) a.operation)

  read_alike : (header other : Header) (a b : Result PlainAsk PlainRefusal) → header ≡ other → AreReadAlike a b → AnswerAlike (responded_to room devices account now header a) (responded_to room devices account now other b)
  read_alike header other (Ok a) (Ok b) same alike = asks_alike a b alike
  read_alike header other (Err a) (Err b) same alike = λ i. hidden_response (responded_to room devices account now (same i) (Err (alike i)))
  read_alike header other (Ok a) (Err b) same alike = absurd alike
  read_alike header other (Err a) (Ok b) same alike = absurd alike

  step_alike : (short : Bool) (first second : Response) → AnswerAlike first second
      → StepAlike (cond short (record { reply = reply.Short; verdict = short_refused; room = room }) (record { reply = reply.Ipp first.text; verdict = first.verdict; room = first.room })) (cond short (record { reply = reply.Short; verdict = short_refused; room = room }) (record { reply = reply.Ipp second.text; verdict = second.verdict; room = second.room }))
  step_alike true first second alike = refl
  step_alike false first second alike = ap (λ (response : Response). record { reply = reply.Ipp response.text; verdict = response.verdict; room = response.room }) alike

  pub bodies_alike : (a b : List ℕ) → AreBodiesAlike account a b → StepAlike (answered_open room devices now (OfAccount account (Ipp a))) (answered_open room devices now (OfAccount account (Ipp b)))
  bodies_alike a b alike =
      let first = responded_to room devices account now (header_in a) (ask_of account a) in
      let second = responded_to room devices account now (header_in b) (ask_of account b) in
      ap (λ (short : Bool). hidden_step (cond short (record { reply = reply.Short; verdict = short_refused; room = room }) (record { reply = reply.Ipp first.text; verdict = first.verdict; room = first.room }))) alike.short
      ∙ step_alike (nat_lt (length b) header_length) first second (read_alike (header_in a) (header_in b) (ask_of account a) (ask_of account b) alike.header alike.read)
