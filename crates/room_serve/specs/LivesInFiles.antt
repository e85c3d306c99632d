-- An account's life and the file: what its rows are is what all that it was told has left, over
-- lists of events, messages of HTTP and openings (all this project's own).
use Rattle.std.specs.Prelude.{ℕ, Bool, true, ◌||◌, List, [], ◌∷◌, ◌++◌, Option, IsTrue, Result, if◌then◌else◌}
use Rattle.sqlite.specs.Effect.{Database}
use Rattle.sqlite.specs.Held.{Held, state}
use Rattle.sqlite_trees.specs.declared.store.Store.{Ghosts}
use Rattle.account_machine.specs.Events.{Timed, OfAccount, Ipp}
use Rattle.account_machine.specs.declared.event.Reply.{Reply}
use Rattle.account_lives.specs.Lives.{IsLife, Life}
use Rattle.account_rules.specs.Devices.{Devices}
use Rattle.account_state.specs.Rooms.{RoomValue}
use Rattle.room_store.specs.Opening.{MigratesDevices, OpensDevices, OpensRows}
use Rattle.store_rounds.specs.declared.fault.StoreFault.{StoreFault}
use Rattle.rows_tables.specs.Accounts.{Holds}
use Rattle.rows_tables.specs.Calls.{IfDiskHonest, IfOurTables}
use Rattle.rows_tables.specs.Devices.{HoldsDevices}
use Rattle.rows_tables.specs.Keyed.{AreNumbered, HasSchema}
use Rattle.rows_tables.specs.Making.{IsNew}
use Rattle.rows_tables.specs.Migrating.{HoldsFirstDevices}
use Rattle.room_serve.specs.declared.outcome.Outcome.{Outcome}
use Rattle.room_serve.specs.declared.outcome.Outcome.TheVariants.{Answered, Failed}
use Rattle.room_serve.specs.Exchanges.{AppliesMessage}
use Rattle.room_serve.specs.Outcomes.{outcome_of}
use Rattle.room_serve.specs.Own.{is_of, is_of_device}
use Rattle.room_serve.specs.Runs.{AreApplied, RunsAlone, RunsDevices}

-- what the account was told, and the devices: its events and theirs that were answered, in order,
-- each with its answer
abbrev pub exchanges_of : (name : List ℕ) (events : List Timed) (outcomes : List Outcome) → Life
exchanges_of name (e ∷ events) (Answered reply ∷ outcomes) =
    if is_of name e.1 || is_of_device e.1 then (e, reply) ∷ exchanges_of name events outcomes
    else exchanges_of name events outcomes
exchanges_of name (e ∷ events) (Failed fault ∷ outcomes) = exchanges_of name events outcomes
exchanges_of name _ _ = []

-- It is a life of the account, and the rows of the account and of the devices are what it left, as
-- far as they can be seen.
pub record IsLifeIn (db : Database) (is_open : Bool) (name : List ℕ) (life : Life) : Type 0 where
  pub room : Option RoomValue
  pub devices : Devices
  pub is_life : IsLife life room devices
  pub rows : IsTrue is_open → Holds db name room
  pub device_rows : IsTrue is_open → HoldsDevices db devices

-- the same of a database of version 1, in which each device has rate 1
pub record IsFirstLifeIn (db : Database) (name : List ℕ) (life : Life) : Type 0 where
  pub room : Option RoomValue
  pub devices : Devices
  pub is_life : IsLife life room devices
  pub rows : Holds db name room
  pub device_rows : HoldsFirstDevices db devices

-- ---- it goes on with what is told

-- the life before, and behind it all that was told in the list
abbrev pub LivesGoOnInRuns : Type 0
LivesGoOnInRuns =
    (events : List Timed) (outcomes : List Outcome) (old : Database) (is_open : Bool)
    (new : Database) → RunsAlone events outcomes old is_open new
    → RunsDevices events outcomes old is_open new
    → (name : List ℕ) (life : Life) → IsLifeIn old true name life
    → IsLifeIn new is_open name (life ++ exchanges_of name events outcomes)

module _ {S : Type 0} (store : Ghosts S) where
  -- the same of events that were applied one after another, as by `run_events`, or each by a call
  -- of `Store::apply` or of `serve_one`
  abbrev pub LivesGoOnInLists : Type 0
  LivesGoOnInLists = (events : List Timed) (outcomes : List Outcome) (old new : Held S)
      → AreApplied store events outcomes old new
      → IfOurTables store old new (λ db. (name : List ℕ) (life : Life) → IsLifeIn db true name life
      → IsLifeIn (state store new).now (state store new).is_open name
      (life ++ exchanges_of name events outcomes))

  -- a message of HTTP is a list of one event
  abbrev pub MessagesAreEvents : Type 0
  MessagesAreEvents = (now : ℕ) (account body : List ℕ) (old new : Held S)
      (told : Result Reply StoreFault) → AppliesMessage store now account body old new told
      → AreApplied store ((now, OfAccount account (Ipp body)) ∷ []) (outcome_of told ∷ []) old new

  -- and lists in a row are one list
  abbrev pub ListsJoin : Type 0
  ListsJoin = (first second : List Timed) (firsts seconds : List Outcome) (old mid new : Held S)
      → AreApplied store first firsts old mid → AreApplied store second seconds mid new
      → AreApplied store (first ++ second) (firsts ++ seconds) old new

-- ---- it begins with the file, and stays over each opening, as by `Store::open` and `migrate`

-- where tables are made, as by `Store::create`, nothing was told yet
abbrev pub LivesBegin : Type 0
LivesBegin = (db : Database) → IsNew db → (name : List ℕ) → IsLifeIn db true name []

module _ {S : Type 0} (store : Ghosts S) (old new : Held S) where
  -- the life is in what was opened, and goes on there
  pub record GoesOnIn (name : List ℕ) (life : Life) : Type 0 where
    pub is_life : IsLifeIn (state store new).now true name life
    pub schema : HasSchema (state store new).now

module _ {S : Type 0} (store : Ghosts S) where
  -- where row numbers came once in the database that was opened
  abbrev pub LivesAreOpened : Type 0
  LivesAreOpened = (old new : Held S) → OpensRows store old new → OpensDevices store old new
      → IfDiskHonest store old new (λ db. AreNumbered db.schema.tables db
      → (name : List ℕ) (life : Life) → IsLifeIn db true name life
      → GoesOnIn store old new name life)

  abbrev pub LivesAreMigrated : Type 0
  LivesAreMigrated = (old new : Held S) → OpensRows store old new → MigratesDevices store old new
      → IfDiskHonest store old new (λ db. AreNumbered db.schema.tables db
      → (name : List ℕ) (life : Life) → IsFirstLifeIn db name life
      → GoesOnIn store old new name life)
