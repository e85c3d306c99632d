-- What is handed out is what was sent (all this project's own).
use Rattle.std.specs.Prelude.{◌≡◌, ℕ, ◌==◌, if◌then◌else◌, true, List, [], ◌∷◌, ◌++◌, map}
use Rattle.std.specs.List.{flat_map}
use Rattle.account_asks.specs.Asks.{PlainAsk}
use Rattle.account_machine.specs.Events.{OfAccount, Start}
use Rattle.account_machine.specs.declared.event.Reply.TheVariants as reply
use Rattle.account_laws.specs.Deeds.{Deed, Brought, Started, deed_of}
use Rattle.account_laws.specs.JobsMade.{IsMadeBy}
use Rattle.account_laws.specs.JobsTold.{Sent, brought_first, brought_next}
use Rattle.account_lives.specs.Lives.{Exchange, Life, OfLives}
use Rattle.account_laws.specs.StationAnswers.{part_told}
use Rattle.account_laws.specs.Told.{is_documents}
use Rattle.account_replies.specs.declared.part.Part.{Part}

-- the data of a Send-Document that names the job, where it was done and has any
abbrev pub brought_to : (number : ℕ) → Deed → List Sent
brought_to number (Brought ask) = if number == ask.job then brought_next ask else []
brought_to number _ = []

-- what was sent for a job: the document of the Print-Job that made it, if one did, and then what
-- each Send-Document brought
abbrev pub sent_for : (number : ℕ) (maker : PlainAsk) (life : Life) → List Sent
sent_for number maker life =
    brought_first maker maker.operation
    ++ flat_map (λ (x : Exchange). brought_to number (deed_of x)) life

-- all that was sent for the job by then, in order, byte for byte, with the copies that the request
-- asked for that made it
pub record IsAllSent (number : ℕ) (parts : List Part) (life : Life) : Type 0 where
  pub maker : PlainAsk
  pub made : IsMadeBy number maker life
  pub are_these : parts ≡ map (part_told number maker.copies) (sent_for number maker life)

-- wherever documents are handed out, they are that
abbrev pub HandedAsSent : Type 0
HandedAsSent = OfLives (λ life.
    (past later : Life) (now : ℕ) (account device : List ℕ) (number : ℕ) (parts : List Part)
    → life ≡ past
    ++ ((now, OfAccount account (Start device number)), reply.Documents parts) ∷ later
    → IsAllSent number parts past)

-- and an answer has documents where a start is answered, and nowhere else
pub record IsStart (x : Exchange) : Type 0 where
  pub device : List ℕ
  pub number : ℕ
  pub starts : deed_of x ≡ Started device number

abbrev pub HandedAtStarts : Type 0
HandedAtStarts = OfLives (λ life.
    (past later : Life) (x : Exchange) → life ≡ past ++ x ∷ later → is_documents x.1 ≡ true
    → IsStart x)
