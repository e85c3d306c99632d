-- The devices, as a map from names, that the rows of `device` and `rates` stand for (all this
-- project's own).
use Rattle.std.specs.Prelude.{◌≡◌, ℕ, ◌≤◌, List, [], ◌∷◌, Option, option_map, IfSome, IsTrue}
use Rattle.std.specs.FinMap.{get}
use Rattle.sqlite_value.specs.declared.value.Value.TheVariants.{Text}
use Rattle.sqlite_value.specs.Order.{Row}
use Rattle.sqlite.specs.Effect.{Database}
use Rattle.account_rules.specs.Names.{is_name}
use Rattle.account_rules.specs.Limits.{most_rate}
use Rattle.account_rules.specs.Devices.{Devices}
use Rattle.account_rules.specs.declared.device.Device.{Device}
use Rattle.rows_tables.specs.Tables.{device, rates}
use Rattle.rows_tables.specs.Keyed.{row_at}
use Rattle.rows_tables.specs.Cells.{device_cells, rate_cells}

abbrev pub device_at : (db : Database) (name : List ℕ) → Option Row
device_at db name = row_at device (Text name ∷ []) db

abbrev pub rate_at : (db : Database) (name : List ℕ) → Option Row
rate_at db name = row_at rates (Text name ∷ []) db

pub record IsDevice (name : List ℕ) (device : Device) : Type 0 where
  pub named : device.name ≡ name
  pub is_a_name : IsTrue (is_name name)
  pub rate_from_one : 1 ≤ device.rate
  pub rate_at_most : device.rate ≤ most_rate

-- the map of the devices: each has one row in each table, and no other row is there
pub record HoldsDevices (db : Database) (devices : Devices) : Type 0 where
  pub are_devices : (name : List ℕ) → IfSome (get devices name) (IsDevice name)
  pub device_rows : (name : List ℕ) → device_at db name ≡ option_map device_cells (get devices name)
  pub rate_rows : (name : List ℕ) → rate_at db name ≡ option_map rate_cells (get devices name)

-- the rows of both tables are sound
abbrev pub AreSoundDevices : Database → Type 0
AreSoundDevices db = (devices : Devices) × HoldsDevices db devices

-- so they are those of one map and no other
abbrev pub AreOfOneMap : Type 0
AreOfOneMap = (db : Database) (a b : Devices) → HoldsDevices db a → HoldsDevices db b → a ≡ b

-- the two databases have the same rows of devices
pub record AgreeOnDevices (a b : Database) : Type 0 where
  pub same_devices : (name : List ℕ) → device_at b name ≡ device_at a name
  pub same_rates : (name : List ℕ) → rate_at b name ≡ rate_at a name
