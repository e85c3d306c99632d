-- Documents that are handed out again are those of the start (all this project's own).
use Rattle.std.specs.Prelude.{◌≡◌, ℕ, ◌==◌, Bool, false, List, ◌∷◌, ◌++◌, All, Some}
use Rattle.account_machine.specs.Events.{OfAccount, Start}
use Rattle.account_machine.specs.declared.event.Reply.TheVariants as reply
use Rattle.account_laws.specs.Deeds.{Deed, Canceled, deed_of}
use Rattle.account_laws.specs.HandedOnce.{hands_out, settles}
use Rattle.account_lives.specs.Lives.{Exchange, IsLife, Life}
use Rattle.account_questions.specs.Questions.{answer_about}
use Rattle.account_questions.specs.declared.question.About.TheVariants.{Again}
use Rattle.account_replies.specs.declared.part.Part.{Part}
use Rattle.account_rules.specs.Devices.{Devices}
use Rattle.account_state.specs.Rooms.{RoomValue}

-- a cancel of the job
abbrev pub cancels : (number : ℕ) → Deed → Bool
cancels number (Canceled job) = number == job
cancels number _ = false

-- the device started the job and was handed these documents; nothing since started, settled or
-- canceled it
pub record WasHanded (device : List ℕ) (number : ℕ) (parts : List Part) (life : Life) : Type 0 where
  pub earlier : Life
  pub now : ℕ
  pub account : List ℕ
  pub later : Life
  pub are_these : life
      ≡ earlier ++ ((now, OfAccount account (Start device number)), reply.Documents parts) ∷ later
  pub not_restarted : All (λ (x : Exchange). hands_out number (deed_of x) ≡ false) later
  pub not_settled : All (λ (x : Exchange). settles number (deed_of x) ≡ false) later
  pub not_canceled : All (λ (x : Exchange). cancels number (deed_of x) ≡ false) later

-- whoever is handed documents again is the device that started the job and has not settled it, is
-- handed what it was handed at the start, and nobody canceled the job since
abbrev pub HandedAgain : Type 0
HandedAgain =
    (life : Life) (room : RoomValue) (devices : Devices) → IsLife life (Some room) devices
    → (account device : List ℕ) (number : ℕ) (parts : List Part)
    → answer_about account (Again device number) room devices ≡ reply.Documents parts
    → WasHanded device number parts life

-- and a device that started a job and was handed its documents is handed these again, where nothing
-- since settled or canceled the job
abbrev pub HandsAgain : Type 0
HandsAgain =
    (life : Life) (room : RoomValue) (devices : Devices) → IsLife life (Some room) devices
    → (earlier later : Life) (now : ℕ) (account device : List ℕ) (number : ℕ) (parts : List Part)
    → life ≡ earlier
    ++ ((now, OfAccount account (Start device number)), reply.Documents parts) ∷ later
    → All (λ (x : Exchange). settles number (deed_of x) ≡ false) later
    → All (λ (x : Exchange). cancels number (deed_of x) ≡ false) later
    → answer_about account (Again device number) room devices ≡ reply.Documents parts
