-- What a list of events makes of a database, event by event: of each account, of the devices, and
-- of all that is none of theirs (all this project's own).
use Rattle.std.specs.Prelude.{◌≡◌, ℕ, Bool, List, [], ◌∷◌, filter, Option, IsTrue}
use Rattle.sqlite_trees.specs.declared.store.Store.{Ghosts}
use Rattle.sqlite.specs.Effect.{Database}
use Rattle.sqlite.specs.Held.{Held, state}
use Rattle.account_rules.specs.Devices.{Devices}
use Rattle.account_state.specs.Rooms.{RoomValue}
use Rattle.store_events.specs.Applied.{Applies}
use Rattle.rows_tables.specs.Accounts.{AgreeOnRows, Holds}
use Rattle.rows_tables.specs.Devices.{AgreeOnDevices, HoldsDevices}
use Rattle.rows_tables.specs.Tables.{meta}
use Rattle.room_serve.specs.declared.outcome.Outcome.{Outcome}
use Rattle.account_machine.specs.Events.{Timed}
use Rattle.room_serve.specs.Own.{is_of, is_of_device, of_devices, own}
use Rattle.room_serve.specs.Alone.{Alone, DevicesAlone, alone, devices_alone}
use Rattle.room_serve.specs.Outcomes.{answered_of, replies_to, result_of}

-- ---- event by event

-- each was applied, once, one after another, and came to its outcome
abbrev pub AreApplied :
    {S : Type 0} (store : Ghosts S) → List Timed → List Outcome → (old new : Held S) → Type 0
AreApplied store [] [] old new = new ≡ old
AreApplied {S} store (e ∷ events) (outcome ∷ outcomes) old new =
    (next : Held S) × Applies e.0 e.1 (state store old) (state store next) (result_of outcome)
    × AreApplied store events outcomes next new
AreApplied store _ _ old new = ⊥

-- ---- all together

module _ (events : List Timed) (outcomes : List Outcome) (old : Database) (is_open : Bool)
    (new : Database) where
  -- The account was told, and has, what its machine gives; rows can be seen where no failure of the
  -- disk has shut the connection.
  pub record IsAlone (name : List ℕ) (machine : Alone) : Type 0 where
    pub replies : replies_to (is_of name) events outcomes ≡ machine.replies
    pub rows : IsTrue is_open → Holds new name machine.room
    pub devices : IsTrue is_open → HoldsDevices new machine.devices

  -- each account whose rows are sound: by its own events that were answered, and by no others
  abbrev pub RunsAlone : Type 0
  RunsAlone = (name : List ℕ) (room : Option RoomValue) (devices : Devices) → Holds old name room
      → HoldsDevices old devices
      → IsAlone name (alone room devices (own name (answered_of events outcomes)))

  -- the devices, by their own events
  pub record AreAlone (machine : DevicesAlone) : Type 0 where
    pub replies : replies_to is_of_device events outcomes ≡ machine.replies
    pub devices : IsTrue is_open → HoldsDevices new machine.devices

  abbrev pub RunsDevices : Type 0
  RunsDevices = (devices : Devices) → HoldsDevices old devices
      → AreAlone (devices_alone devices (of_devices (answered_of events outcomes)))

  -- The rest is left as it was: the rows of an account, sound or not, that no event of its own was
  -- answered to, those of devices where none of theirs was, and the version of the file.
  pub record LeavesTheRest : Type 0 where
    pub accounts : (name : List ℕ)
        → filter (λ (e : Timed). is_of name e.1) (answered_of events outcomes) ≡ []
        → AgreeOnRows name old new
    pub devices : of_devices (answered_of events outcomes) ≡ [] → AgreeOnDevices old new
    pub version : new.trees meta.tree ≡ old.trees meta.tree
