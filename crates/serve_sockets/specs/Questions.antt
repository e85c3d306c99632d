-- What a question is answered by: the rooms that what was told so far has left (this project's own).
use Rattle.std.specs.Prelude.{◌≡◌, ℕ, true, IfOk, Option, List, ◌++◌, Some, Result}
use Rattle.sqlite.specs.Effect.{Database}
use Rattle.sqlite.specs.Held.{Held}
use Rattle.sqlite_trees.specs.declared.store.Store.{Ghosts}
use Rattle.account_machine.specs.declared.event.Reply.{Reply}
use Rattle.account_lives.specs.Lives.{IsLife, Life}
use Rattle.account_state.specs.Names.{AreNames}
use Rattle.account_questions.specs.Questions.{answer_to, ConcernsNames, ConcernsNoOther}
use Rattle.account_questions.specs.declared.question.Question.{Question}
use Rattle.account_rules.specs.Devices.{Devices}
use Rattle.account_state.specs.Rooms.{RoomValue}
use Rattle.store_rounds.specs.declared.fault.StoreFault.{StoreFault}
use Rattle.rows_tables.specs.Calls.{IfOurTables}
use Rattle.room_serve.specs.LivesInFiles.{IsLifeIn}
use Rattle.serve_peers.specs.Journals.{Told}
use Rattle.serve_peers.specs.ServedLives.{told_to}

module _ {S : Type 0} (store : Ghosts S) (first last : Held S) where
  -- the names of the accounts that are open, where each has a life, and has been told this
  pub record AreNamesThen (so_far : List Told) (db : Database) (names : List (List ℕ)) : Type 0 where
    pub lives : (name : List ℕ) → Life
    pub are_lives : (name : List ℕ) → IsLifeIn db true name (lives name)
    pub are : AreNames (λ name. (room : RoomValue) × (devices : Devices)
        × IsLife (lives name ++ told_to name so_far) (Some room) devices) names

  -- by the room and the devices that the account's life has left, as far as it was told this, and by
  -- the names of the accounts that are open then
  abbrev pub AnswersBy : (so_far : List Told) → Question → Result Reply StoreFault → Type 0
  AnswersBy so_far question told = IfOurTables store first last (λ db. (name : List ℕ) (life : Life)
      → ConcernsNoOther question name → IsLifeIn db true name life
      → IfOk told (λ reply. (room : Option RoomValue) × (devices : Devices)
      × IsLife (life ++ told_to name so_far) room devices × ((names : List (List ℕ))
      → (ConcernsNames question → AreNamesThen so_far db names)
      → reply ≡ answer_to question room devices names)))
