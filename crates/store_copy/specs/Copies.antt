-- What a backup holds: of each account, and of the devices, what the source held at one moment (all
-- this project's own).
use Rattle.std.specs.Prelude.{◌≡◌, ℕ, List, Option, None}
use Rattle.sqlite.specs.Effect.{Database}
use Rattle.account_rules.specs.Devices.{Devices}
use Rattle.account_state.specs.Rooms.{RoomValue}
use Rattle.rows_tables.specs.Accounts.{Holds, IsSound}
use Rattle.rows_tables.specs.Devices.{device_at, rate_at, AreSoundDevices, HoldsDevices}
use Rattle.rows_statements.specs.Alone.{OnlyDevices}
use Rattle.rows_tables.specs.Agreement.{Agree}

-- ---- an account

-- the rows of the account in the copy are the room that they are in the source
abbrev pub IsCopyOf : (name : List ℕ) (source copy : Database) → Type 0
IsCopyOf name source copy =
    (room : Option RoomValue) → Holds source name room → Holds copy name room

-- ---- the devices

-- the devices in the copy are those in the source
abbrev pub AreCopies : (source copy : Database) → Type 0
AreCopies source copy = (devices : Devices) → HoldsDevices source devices → HoldsDevices copy devices

-- no device is there
pub record HoldsNoDevice (db : Database) : Type 0 where
  pub no_device : (name : List ℕ) → device_at db name ≡ None
  pub no_rate : (name : List ℕ) → rate_at db name ≡ None

-- where the copy had no device, they are copied, and no account's rows change
pub record CopiesDevices (source before after : Database) : Type 0 where
  pub copied : HoldsNoDevice before → AreCopies source after
  pub alone : OnlyDevices before after

-- ---- what follows

-- an account and the devices, all of them sound and copied, are the same to the account in both: so
-- it is answered over the copy what it would have been answered over the source
abbrev pub CopiesAgree : Type 0
CopiesAgree = (name : List ℕ) (source copy : Database) → IsSound source name
    → AreSoundDevices source → IsCopyOf name source copy → AreCopies source copy
    → Agree name source copy
