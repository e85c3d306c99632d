-- Which events of a list were answered, which failed, and what was answered (all this project's
-- own).
use Rattle.std.specs.Prelude.{◌≡◌, ℕ, Bool, List, [], ◌∷◌, Option, Some, None, Result, Ok, Err, if◌then◌else◌}
use Rattle.account_machine.specs.Events.{PlainEvent, Timed}
use Rattle.account_machine.specs.declared.event.Reply.{Reply}
use Rattle.store_rounds.specs.declared.fault.StoreFault.{StoreFault}
use Rattle.room_serve.specs.declared.outcome.Outcome.{Outcome}
use Rattle.room_serve.specs.declared.outcome.Outcome.TheVariants.{Answered, Failed}
use Rattle.room_serve.specs.Own.{own}

abbrev pub outcome_of : Result Reply StoreFault → Outcome
outcome_of (Ok reply) = Answered reply
outcome_of (Err fault) = Failed fault

-- what the event came to, of which this is the outcome
abbrev pub result_of : Outcome → Result Reply StoreFault
result_of (Answered reply) = Ok reply
result_of (Failed fault) = Err fault

abbrev pub reply_of : Outcome → Option Reply
reply_of (Answered reply) = Some reply
reply_of (Failed fault) = None

-- the events that were answered, in order
abbrev pub answered_of : List Timed → List Outcome → List Timed
answered_of (e ∷ events) (Answered reply ∷ outcomes) = e ∷ answered_of events outcomes
answered_of (e ∷ events) (Failed fault ∷ outcomes) = answered_of events outcomes
answered_of _ _ = []

-- those that failed
abbrev pub failed_of : List Timed → List Outcome → List Timed
failed_of (e ∷ events) (Answered reply ∷ outcomes) = failed_of events outcomes
failed_of (e ∷ events) (Failed fault ∷ outcomes) = e ∷ failed_of events outcomes
failed_of _ _ = []

-- what was answered to the events of a kind, in order
abbrev pub replies_to : (kind : PlainEvent → Bool) (events : List Timed) (outcomes : List Outcome)
    → List Reply
replies_to kind (e ∷ events) (Answered reply ∷ outcomes) =
    if kind e.1 then reply ∷ replies_to kind events outcomes else replies_to kind events outcomes
replies_to kind (e ∷ events) (Failed fault ∷ outcomes) = replies_to kind events outcomes
replies_to kind _ _ = []

-- of the account's own events and those of devices, none failed
abbrev pub NoneFailed : (name : List ℕ) (events : List Timed) (outcomes : List Outcome) → Type 0
NoneFailed name events outcomes = own name (failed_of events outcomes) ≡ []
