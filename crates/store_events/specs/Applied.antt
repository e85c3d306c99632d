-- What one event that is applied does to the tables of all accounts and of the devices (all this
-- project's own).
use Rattle.std.specs.Prelude.{◌≡◌, ◌⊎◌, ◌↔◌, ◌<◌, ℕ, false, List, IsTrue, IfOk, IsErrOf, MatchResult, OnErr, OnOk, Option, Result, Err}
use Rattle.sqlite_trees.specs.Tree.{Trees}
use Rattle.sqlite.specs.Effect.{Database}
use Rattle.sqlite.specs.State.{State, HasCleanDisk}
use Rattle.account_machine.specs.DeviceEvents.{device_answered}
use Rattle.account_machine.specs.Events.{PlainEvent, OfAccount, OfDevice}
use Rattle.account_machine.specs.Machine.{answered}
use Rattle.account_machine.specs.Verdicts.{reply_of}
use Rattle.account_machine.specs.declared.event.Reply.{Reply}
use Rattle.account_machine.specs.declared.event.Reply.TheVariants.{Short}
use Rattle.account_machine.specs.declared.verdict.Answered.{Answered}
use Rattle.account_machine.specs.declared.verdict.Verdict.{Verdict}
use Rattle.account_rules.specs.Devices.{Devices}
use Rattle.account_rules.specs.Limits.{last_moment}
use Rattle.account_state.specs.Rooms.{RoomValue}
use Rattle.rows_statements.specs.Alone.{OnlyAccount, OnlyDevices}
use Rattle.store_events.specs.Reading.{IsReadable}
use Rattle.store_events.specs.Events.{IsShort}
use Rattle.store_rounds.specs.Shut.{LeavesIfShut}
use Rattle.store_rounds.specs.declared.fault.StoreFault.{StoreFault}
use Rattle.store_rounds.specs.declared.fault.StoreFault.TheVariants.{Damaged, Moment}
use Rattle.rows_tables.specs.Accounts.{Holds}
use Rattle.rows_tables.specs.Calls.{KeepsConnection}
use Rattle.rows_tables.specs.Crashes.{IsOnDisk}
use Rattle.rows_tables.specs.Devices.{HoldsDevices}
use Rattle.rows_tables.specs.Keyed.{HasSchema}

-- ---- what an event makes of the tables

module _ (now : ℕ) (e : PlainEvent) (before after : Database) where
  -- the account has what its machine gives; only its rows change
  pub record ChangesAccount (name : List ℕ) : Type 0 where
    pub rows : (room : Option RoomValue) (devices : Devices) → Holds before name room
        → HoldsDevices before devices → Holds after name (answered room devices now e).room
    pub alone : OnlyAccount name before after

  -- the devices are what they are by themselves; only their rows change
  pub record ChangesDevices : Type 0 where
    pub rows : (devices : Devices) → HoldsDevices before devices
        → HoldsDevices after (device_answered devices e).devices
    pub alone : OnlyDevices before after

  -- by whose it is
  abbrev pub ChangesOf : PlainEvent → Type 0
  ChangesOf (OfAccount name it) = ChangesAccount name
  ChangesOf (OfDevice name it) = ChangesDevices

  pub record IsDone : Type 0 where
    pub changes : ChangesOf e
    pub schema : HasSchema after

-- ---- and what is told of it

-- the account, or the device, is told what its machine says
abbrev pub IsTold : (now : ℕ) (e : PlainEvent) (before : Database) (told : Reply) → Type 0
IsTold now (OfAccount name it) before told = (room : Option RoomValue) (devices : Devices)
    → Holds before name room → HoldsDevices before devices
    → told ≡ (answered room devices now (OfAccount name it)).reply
IsTold now (OfDevice name it) before told = (devices : Devices) → HoldsDevices before devices
    → told ≡ (device_answered devices (OfDevice name it)).reply

pub record IsAnswered (now : ℕ) (e : PlainEvent) (before after : Database) (told : Reply) : Type 0
  where
    pub is_told : IsTold now e before told
    pub is_done : IsDone now e before after

-- ---- and what it came to

-- as its machine has it
abbrev pub HasVerdict : (now : ℕ) (e : PlainEvent) (before : Database) (verdict : Verdict) → Type 0
HasVerdict now (OfAccount name it) before verdict = (room : Option RoomValue) (devices : Devices)
    → Holds before name room → HoldsDevices before devices
    → verdict ≡ (answered room devices now (OfAccount name it)).verdict
HasVerdict now (OfDevice name it) before verdict = (devices : Devices) → HoldsDevices before devices
    → verdict ≡ (device_answered devices (OfDevice name it)).verdict

-- ---- an event that was applied

pub record Applies
    (now : ℕ) (e : PlainEvent) (old new : State) (told : Result Reply StoreFault) : Type 0 where
  pub answered : HasCleanDisk new → HasSchema old.now → IfOk told (IsAnswered now e old.now new.now)
  -- an open after a crash finds what it could have found before, or the whole event
  pub crash : HasCleanDisk new → HasSchema old.now → (found : Trees) → new.may_leave found
      → old.may_leave found
      ⊎ ((after : Database) × (after.trees ≡ found) × IsDone now e old.now after)
  -- after a fault nothing has changed, where the connection is open
  pub unchanged : HasCleanDisk new → HasSchema old.now
      → OnErr told (IsTrue new.is_open → new.now ≡ old.now)
  pub damaged : HasCleanDisk new → HasSchema old.now → told ≡ Err Damaged
      → IsReadable now e old.now → ⊥
  pub moment : IsErrOf told Moment ↔ (last_moment < now)
  -- whatever the tables are, and the connection
  pub short : IsShort e → MatchResult told (λ reply. reply ≡ Short) (λ fault. fault ≡ Moment)
  -- any other is answered only where the connection was open
  pub asked : (IsShort e → ⊥) → HasCleanDisk new → OnOk told (IsTrue old.is_open)
  -- and an answer leaves it open
  pub opened : HasCleanDisk new → OnOk told (IsTrue old.is_open → IsTrue new.is_open)
  -- where no transaction is under way, what is seen is on the disk
  pub on_disk : HasCleanDisk new → new.in_transaction ≡ false → IsOnDisk new
  -- and what was left by a connection that is shut stays
  pub shut : LeavesIfShut old new
  pub connection : KeepsConnection old new

-- the same, with what it came to
pub record AppliesFully
    (now : ℕ) (e : PlainEvent) (old new : State) (told : Result Answered StoreFault) : Type 0 where
  pub applies : Applies now e old new (reply_of told)
  pub verdict : HasCleanDisk new → HasSchema old.now
      → IfOk told (λ it. HasVerdict now e old.now it.verdict)
