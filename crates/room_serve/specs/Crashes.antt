-- What an open after a crash finds of an account's life (all this project's own).
use Rattle.std.specs.List.{AllByRecursion}
use Rattle.std.specs.Prelude.{◌≡◌, ◌⊎◌, ℕ, Bool, true, false, List, [], ◌∷◌, ◌++◌, IsTrue, Result, Ok, Err}
use Rattle.sqlite.specs.Effect.{Database}
use Rattle.sqlite.specs.Held.{Held, state}
use Rattle.sqlite_trees.specs.Tree.{Trees}
use Rattle.sqlite_trees.specs.declared.store.Store.{Ghosts}
use Rattle.account_machine.specs.Events.{Timed}
use Rattle.account_machine.specs.declared.event.Reply.{Reply}
use Rattle.account_machine.specs.declared.event.Reply.TheVariants.{Short}
use Rattle.account_lives.specs.Lives.{Life}
use Rattle.store_events.specs.Applied.{Applies}
use Rattle.store_rounds.specs.declared.fault.StoreFault.{StoreFault}
use Rattle.rows_tables.specs.Calls.{IfOurTables}
use Rattle.rows_tables.specs.Crashes.{IsOnDisk}
use Rattle.rows_tables.specs.Keyed.{AreNumbered}
use Rattle.rows_tables.specs.Tables.{room_schema}
use Rattle.room_serve.specs.declared.outcome.Outcome.{Outcome}
use Rattle.room_serve.specs.declared.outcome.Outcome.TheVariants.{Answered, Failed}
use Rattle.room_serve.specs.LivesInFiles.{IsLifeIn, exchanges_of}
use Rattle.room_serve.specs.Runs.{AreApplied}

-- whoever opens these trees finds this life of the account in them, and row numbers that come once
pub record IsFound (name : List ℕ) (life : Life) (found : Trees) : Type 0 where
  pub lives : (db : Database) → db.trees ≡ found → IsLifeIn db true name life
  pub numbered : (db : Database) → db.trees ≡ found → AreNumbered room_schema.tables db

-- the life, with the event behind it where it is the account's or a device's
abbrev pub with_event : (name : List ℕ) (life : Life) (e : Timed) (reply : Reply) → Life
with_event name life e reply = life ++ exchanges_of name (e ∷ []) (Answered reply ∷ [])

-- With an event that was answered its answer is found. One that failed left the life as it was; or
-- it shut the connection and was done, and stands behind the life, answered as its machine does.
abbrev pub IsFoundAfter : (name : List ℕ) (life : Life) (e : Timed) (told : Result Reply StoreFault)
    (is_open : Bool) (found : Trees) → Type 0
IsFoundAfter name life e (Ok reply) is_open found =
    IsFound name (with_event name life e reply) found
IsFoundAfter name life e (Err fault) is_open found = IsFound name life found
    ⊎ ((is_open ≡ false) × (reply : Reply) × IsFound name (with_event name life e reply) found)

-- failed, or told that a message ends within its header, which reads and changes nothing
abbrev pub IsUndone : Outcome → Type 0
IsUndone (Answered reply) = reply ≡ Short
IsUndone (Failed fault) = Unit {0}

-- These outcomes are the others but for one: the event that failed there was done all the same, and
-- answered as its machine does. Behind it no event was done.
pub record HasOneDone (outcomes others : List Outcome) : Type 0 where
  pub front : List Outcome
  pub fault : StoreFault
  pub reply : Reply
  pub rest : List Outcome
  pub failed : outcomes ≡ front ++ Failed fault ∷ rest
  pub done : others ≡ front ++ Answered reply ∷ rest
  pub undone : AllByRecursion IsUndone rest

-- ---- what follows

module _ {S : Type 0} (store : Ghosts S) where
  -- Behind events that were applied one after another a crash finds the life with all that was told
  -- in them.
  abbrev pub AnsweredIsFound : Type 0
  AnsweredIsFound = (events : List Timed) (outcomes : List Outcome) (old new : Held S)
      → IsOnDisk (state store old) → AreApplied store events outcomes old new
      → IfOurTables store old new (λ db. IsTrue (state store new).is_open
      → (name : List ℕ) (life : Life) → IsLifeIn db true name life
      → (found : Trees) → (state store new).may_leave found
      → IsFound name (life ++ exchanges_of name events outcomes) found)

  -- And within the event behind them, or where it shut the connection: the same, and at most that
  -- event.
  abbrev pub UnderWayIsFound : Type 0
  UnderWayIsFound = (events : List Timed) (outcomes : List Outcome) (old mid new : Held S)
      → IsOnDisk (state store old) → AreApplied store events outcomes old mid
      → IsTrue (state store mid).is_open
      → (e : Timed) (told : Result Reply StoreFault)
      → Applies e.0 e.1 (state store mid) (state store new) told
      → IfOurTables store old new (λ db. (name : List ℕ) (life : Life)
      → IsLifeIn db true name life → (found : Trees) → (state store new).may_leave found
      → IsFoundAfter name (life ++ exchanges_of name events outcomes) e told
      (state store new).is_open found)

  -- So it is of every list, wherever in it a fault shut the connection: a crash finds the life with
  -- all that was told, and at most the event whose failure shut the connection, once, in its place.
  abbrev pub ListsAreFound : Type 0
  ListsAreFound = (events : List Timed) (outcomes : List Outcome) (old new : Held S)
      → IsOnDisk (state store old) → AreApplied store events outcomes old new
      → IfOurTables store old new (λ db. IsTrue (state store old).is_open
      → (name : List ℕ) (life : Life) → IsLifeIn db true name life
      → (found : Trees) → (state store new).may_leave found
      → IsFound name (life ++ exchanges_of name events outcomes) found
      ⊎ (((state store new).is_open ≡ false) × (others : List Outcome)
      × HasOneDone outcomes others
      × IsFound name (life ++ exchanges_of name events others) found))
