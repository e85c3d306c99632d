-- What is told of what was found is what is told of the room.
use Rattle.std.proofs.Common.{◌≡◌, ℕ, Bool, List, [], ◌∷◌, ap, ◌∙◌, Option, Some, sym}
use Rattle.account_replies.specs.Queues.{printer_now}
use Rattle.account_replies.specs.Responses.{job_groups}
use Rattle.account_asks.specs.Asks.{PlainAsk}
use Rattle.account_machine.specs.Printers.{printer_shown}
use Rattle.account_machine.specs.Queues.{asked_jobs, listed, listed_names}
use Rattle.account_machine.specs.Requests.{asked_at, doing_ask, refusing_ask_or}
use Rattle.account_rules.specs.Devices.{Devices, is_some_on}
use Rattle.account_rules.specs.declared.account.Account.{Account}
use Rattle.account_rules.specs.declared.job.Job.{Job}
use Rattle.account_state.specs.RoomRules.{unfinished_count}
use Rattle.account_state.specs.Rooms.{RoomValue}
use Rattle.account_state.specs.Sums.{has_processing}
use Rattle.rows_tables.specs.Accounts.{account_of_room}
use Rattle.account_replies.specs.Places.{PlainPlace}
use Rattle.account_replies.specs.PrinterAttributes.{printer_group}
use Rattle.account_replies.specs.declared.printer.PrinterNow.{PrinterNow}
use Rattle.account_replies.specs.JobAttributes.{job_group}
use Rattle.account_machine.specs.JobActs.{job_or_refusal}
use Rattle.account_machine.specs.JobRequests.{job_shown}
use Rattle.std.specs.FinMap.{values, get}
use Rattle.store_events.specs.Answers.{of_response, request_done}

module _ (room : RoomValue) (name : List ℕ) (now : ℕ) (ask : PlainAsk) (account : Account) (same : account ≡ account_of_room room) (at : PlainPlace) (place : at ≡ asked_at account.opened name now ask) where
  at_room : at ≡ asked_at room.opened name now ask
  at_room = place ∙ ap (λ (a : Account). asked_at a.opened name now ask) same

  pub listed_so : (jobs : List Job) → jobs ≡ asked_jobs ask (values room.jobs) → request_done ask ask.job (job_groups at jobs (listed_names ask.wanted)) ≡ of_response (listed room name now ask)
  listed_so jobs found =
      ap (λ (p : PlainPlace). request_done ask ask.job (job_groups p jobs (listed_names ask.wanted))) at_room
      ∙ ap (λ (js : List Job). request_done ask ask.job (job_groups (asked_at room.opened name now ask) js (listed_names ask.wanted))) found

  pub shown_so : (devices : Devices) (printer : PrinterNow) (unfinished : ℕ) (processing on : Bool) → printer ≡ printer_now unfinished account.next_job processing on
      → (unfinished ≡ unfinished_count room) × (processing ≡ has_processing room) → on ≡ is_some_on devices
      → request_done ask ask.job (printer_group at printer ask.wanted ∷ []) ≡ of_response (printer_shown room devices name now ask)
  shown_so devices printer unfinished processing on is queue some =
      ap (λ (p : PlainPlace). request_done ask ask.job (printer_group p printer ask.wanted ∷ [])) at_room
      ∙ ap (λ (p : PrinterNow). request_done ask ask.job (printer_group (asked_at room.opened name now ask) p ask.wanted ∷ []))
      (is
      ∙ ap (λ n. printer_now n account.next_job processing on) queue.0
      ∙ ap (λ (a : Account). printer_now (unfinished_count room) a.next_job processing on) same
      ∙ ap (λ b. printer_now (unfinished_count room) room.next b on) queue.1
      ∙ ap (λ b. printer_now (unfinished_count room) room.next (has_processing room) b) some)

  pub described_so : (job : Job) → job.job ≡ ask.job → get room.jobs ask.job ≡ Some job → (wanted : Option (List (List ℕ))) → wanted ≡ ask.wanted → request_done ask job.job (job_group at job wanted ∷ []) ≡ of_response (job_shown room name now ask)
  described_so job numbered there wanted same_names =
      ap (λ (n : ℕ). request_done ask n (job_group at job wanted ∷ [])) numbered
      ∙ ap (λ (p : PlainPlace). request_done ask ask.job (job_group p job wanted ∷ [])) at_room
      ∙ ap (λ (names : Option (List (List ℕ))). request_done ask ask.job (job_group (asked_at room.opened name now ask) job names ∷ [])) same_names
      ∙ ap (λ (o : Option Job). of_response (refusing_ask_or room ask (job_or_refusal o) (λ (it : Job). doing_ask room ask (job_group (asked_at room.opened name now ask) it ask.wanted ∷ [])))) (sym there)
