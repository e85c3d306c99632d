-- What a function that answers an event promises: the answer that the machine gives, and the rows
-- that it changes (all this project's own).
use Rattle.std.specs.Prelude.{◌≡◌, ℕ, List, Option, Result, Err, IfOk, OnOk, OnErr}
use Rattle.sqlite_trees.specs.declared.store.Store.{Ghosts}
use Rattle.sqlite.specs.Effect.{Database}
use Rattle.sqlite.specs.Held.{Held, state}
use Rattle.account_machine.specs.DeviceEvents.{DeviceAnswer, device_answered}
use Rattle.account_machine.specs.Events.{PlainEvent, OfAccount, OfDevice}
use Rattle.account_machine.specs.Machine.{Answer, answered}
use Rattle.account_machine.specs.Requests.{Response}
use Rattle.account_machine.specs.Steps.{Step}
use Rattle.account_machine.specs.declared.verdict.Answered.{Answered}
use Rattle.account_rules.specs.Devices.{Devices}
use Rattle.account_state.specs.Rooms.{RoomValue}
use Rattle.rows_tables.specs.Accounts.{Holds, HoldsRoom}
use Rattle.rows_tables.specs.Calls.{KeepsTransaction, IfOurTables, LeavesWhole, UnchangedOrUndone}
use Rattle.rows_tables.specs.Devices.{HoldsDevices}
use Rattle.rows_tables.specs.Keyed.{HasSchema}
use Rattle.rows_tables.specs.declared.fault.TableFault.{TableFault}
use Rattle.rows_tables.specs.declared.fault.TableFault.TheVariants.{Damaged}
use Rattle.rows_statements.specs.Alone.{OnlyAccount, OnlyDevices}
use Rattle.store_events.specs.Answers.{of_answer, of_device_answer, of_response, of_step}
use Rattle.store_events.specs.Reading.{IsReadable}
use Rattle.store_rounds.specs.Looks.{StaysOpen}

-- the rows of the account are those of the room, and the devices' those of the map
pub record RowsHold (name : List ℕ) (of : RoomValue × Devices) (db : Database) : Type 0 where
  pub room : HoldsRoom db name of.0
  pub devices : HoldsDevices db of.1

-- the same of an account that may not be open
pub record MayBeHeld
    (name : List ℕ) (of : Option RoomValue × Devices) (db : Database) : Type 0 where
  pub room : Holds db name of.0
  pub devices : HoldsDevices db of.1

-- what becomes of rows: only these change, and those that are held become so
abbrev pub ChangesRows : {R : Type 0} (Before : R → Database → Type 0)
    (Alone : Database → Database → Type 0) (After : R → Database → Type 0)
    (before after : Database) → Type 0
ChangesRows {R} Before Alone After before after =
    Alone before after × ((of : R) → Before of before → After of after)

module _ {S : Type 0} (store : Ghosts S) (old new : Held S) where
  -- Of rows that are held this is answered and that is left; besides, only these change. Within a
  -- transaction that is under way nothing is committed. After a fault nothing has changed, or the
  -- transaction is undone; damage is told only where what was read can be of no sound rows. After a
  -- crash it is there whole, or not at all.
  pub record DoesToTables
      {R T : Type 0} (Before : R → Database → Type 0) (Readable : Database → Type 0)
      (Alone : Database → Database → Type 0) (told : R → T) (After : R → Database → Type 0)
      (result : Result T TableFault) : Type 0 where
    pub connection : StaysOpen store old new result
    pub schema : IfOurTables store old new (λ db. OnOk result (HasSchema (state store new).now))
    pub answer : IfOurTables store old new (λ db.
        IfOk result (λ it. (of : R) → Before of db → it ≡ told of))
    pub left : IfOurTables store old new (λ db.
        OnOk result ((of : R) → Before of db → After of (state store new).now))
    pub alone : IfOurTables store old new (λ db. OnOk result (Alone db (state store new).now))
    pub within : IfOurTables store old new (λ db.
        OnOk result (KeepsTransaction (state store old) (state store new)))
    pub undone : IfOurTables store old new (λ db.
        OnErr result (UnchangedOrUndone (state store old) (state store new)))
    pub damaged : IfOurTables store old new (λ db. result ≡ Err Damaged → Readable db → ⊥)
    pub crash : LeavesWhole store old new (ChangesRows Before Alone After)

  -- of an account that is open: no other account's rows change, and no device's
  abbrev pub DoesAsRoom :
      {T : Type 0} (name : List ℕ) (Readable : Database → Type 0) (told : RoomValue → Devices → T)
      (left : RoomValue → Devices → RoomValue) (result : Result T TableFault) →
      Type 0
  DoesAsRoom name Readable told left result =
      DoesToTables (RowsHold name) Readable (OnlyAccount name) (λ of. told of.0 of.1)
      (λ of db. HoldsRoom db name (left of.0 of.1)) result

  -- by the step that an event makes
  abbrev pub DoesStep :
      (name : List ℕ) (Readable : Database → Type 0) (step : RoomValue → Devices → Step)
      (result : Result Answered TableFault) →
      Type 0
  DoesStep name Readable step result =
      DoesAsRoom name Readable (λ room devices. of_step (step room devices))
      (λ room devices. (step room devices).room) result

  -- and by the response to a request
  abbrev pub DoesResponse :
      (name : List ℕ) (Readable : Database → Type 0) (response : RoomValue → Devices → Response)
      (result : Result Answered TableFault) →
      Type 0
  DoesResponse name Readable response result =
      DoesAsRoom name Readable (λ room devices. of_response (response room devices))
      (λ room devices. (response room devices).room) result

  -- of one that may not be
  abbrev pub DoesAnswer :
      (name : List ℕ) (Readable : Database → Type 0)
      (answered : Option RoomValue → Devices → Answer) (result : Result Answered TableFault) →
      Type 0
  DoesAnswer name Readable answered result =
      DoesToTables (MayBeHeld name) Readable (OnlyAccount name)
      (λ of. of_answer (answered of.0 of.1))
      (λ of db. Holds db name (answered of.0 of.1).room) result

  -- and of a device: no account's rows change
  abbrev pub DoesAsDevices :
      (Readable : Database → Type 0) (answered : Devices → DeviceAnswer)
      (result : Result Answered TableFault) →
      Type 0
  DoesAsDevices Readable answered result =
      DoesToTables (λ devices db. HoldsDevices db devices) Readable OnlyDevices
      (λ devices. of_device_answer (answered devices))
      (λ devices db. HoldsDevices db (answered devices).devices) result

  -- by whose it is
  abbrev pub DoesEvent : (now : ℕ) (e : PlainEvent) (result : Result Answered TableFault) → Type 0
  DoesEvent now (OfAccount account it) result =
      DoesAnswer account (IsReadable now (OfAccount account it))
      (λ room devices. answered room devices now (OfAccount account it)) result
  DoesEvent now (OfDevice device it) result =
      DoesAsDevices (IsReadable now (OfDevice device it))
      (λ devices. device_answered devices (OfDevice device it)) result
