-- What holds of two databases that are the same to an account (all this project's own).
use Rattle.std.specs.Prelude.{ℕ, List, Option}
use Rattle.sqlite.specs.Effect.{Database}
use Rattle.account_rules.specs.Devices.{Devices}
use Rattle.account_state.specs.Rooms.{RoomValue}
use Rattle.rows_tables.specs.Accounts.{Holds}
use Rattle.rows_tables.specs.Agreement.{Agree}
use Rattle.rows_tables.specs.Devices.{HoldsDevices}

abbrev pub HoldTheSame : Type 0
HoldTheSame = (name : List ℕ) (a b : Database) → Agree name a b
    → (room : Option RoomValue) (devices : Devices) → Holds a name room → HoldsDevices a devices
    → Holds b name room × HoldsDevices b devices

abbrev pub AgreeAgain : Type 0
AgreeAgain = (name : List ℕ) (a b : Database) (room : Option RoomValue) (devices : Devices)
    → Holds a name room → HoldsDevices a devices → Holds b name room → HoldsDevices b devices
    → Agree name a b
