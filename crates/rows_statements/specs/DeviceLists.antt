-- All devices by name, as the rows of their table show them (all this project's own).
use Rattle.std.specs.Prelude.{◌≡◌, ℕ, Bool, List, [], ◌∷◌, ◌++◌, map, Some, IsTrue}
use Rattle.std.specs.FinMap.{values}
use Rattle.sqlite_value.specs.declared.value.Value.TheVariants.{Text}
use Rattle.sqlite_value.specs.Order.{Row, column}
use Rattle.sqlite_rules.specs.Lists.{Has}
use Rattle.sqlite.specs.Effect.{Database}
use Rattle.account_rules.specs.Devices.{Devices}
use Rattle.account_rules.specs.Names.{is_name}
use Rattle.account_rules.specs.declared.device.Device.{Device}
use Rattle.rows_tables.specs.Places.{device_column, cell}
use Rattle.rows_tables.specs.Cells.{flag, device_cells, rate_cells}
use Rattle.rows_tables.specs.Devices.{rate_at, HoldsDevices}
use Rattle.rows_statements.specs.SoundRows.{device_rows}

-- ---- what is shown

-- of a row of the table, its name and its flag
abbrev pub shown_device : Row → Row
shown_device cells = cell device_column.name cells ∷ cell device_column.accepting cells ∷ []

-- what is shown are rows of the table, and where those are a map's, all its devices in their order
pub record ShowsDevices (db : Database) (shown : List Row) : Type 0 where
  pub of_map : (devices : Devices) → HoldsDevices db devices
      → shown ≡ map device_cells (values devices)
  pub are_rows : (row : Row) → Has shown row
      → (cells : Row) × Has (device_rows db) cells × (row ≡ shown_device cells)

-- ---- what is told of a device without its rate: its name, and whether it takes jobs

abbrev pub switch_of : Device → List ℕ × Bool
switch_of device = (device.name, device.on)

pub record ShowsSwitch (row : Row) (switch : List ℕ × Bool) : Type 0 where
  pub name : column row 0 ≡ Text switch.0
  pub on : column row 1 ≡ flag switch.1

-- the row tells so much of a device, which is put at the end
pub record ListsSwitch (first : List (List ℕ × Bool)) (row : Row) (last : List (List ℕ × Bool))
    : Type 0 where
  pub switch : List ℕ × Bool
  pub told : ShowsSwitch row switch
  pub added : last ≡ first ++ switch ∷ []

abbrev pub refuses_switch : Row → Type 0
refuses_switch row =
    (switch : List ℕ × Bool) → IsTrue (is_name switch.0) → ShowsSwitch row switch → ⊥

-- ---- with its rate

-- the device has the rate of its row
abbrev pub HasRate : (db : Database) (device : Device) → Type 0
HasRate db device = rate_at db device.name ≡ Some (rate_cells device)
