-- Rule: The devices: a map from names. A list of devices stands for the map in which the first
-- record of a name counts (all this project's own).
use Rattle.std.specs.Prelude.{ℕ, Bool, false, List, map, bytes_eq}
use Rattle.std.specs.declared.cmp.Ordering.{Ordering}
use Rattle.std.specs.Option.{option_map_or}
use Rattle.std.specs.List.{list_any}
use Rattle.std.specs.Ordering.{nat_cmp}
use Rattle.std.specs.Cmp.Lexicographic.{slice_cmp}
use Rattle.std.specs.FinMap.{FinMap, from_entries, get, insert, values}
use Rattle.account_rules.specs.declared.device.Device.{Device}

-- names go by their bytes
abbrev pub name_cmp : List ℕ → List ℕ → Ordering
name_cmp = slice_cmp nat_cmp

abbrev pub Devices : Type 0
Devices = FinMap name_cmp Device

-- ---- the map that a list of devices stands for

abbrev pub by_name : Device → List ℕ × Device
by_name device = (device.name, device)

abbrev pub device_map : List Device → Devices
device_map devices = from_entries (map by_name devices)

abbrev pub is_of_name : (name : List ℕ) (device : Device) → Bool
is_of_name name device = bytes_eq device.name name

-- ---- what the map says

-- some device takes jobs
abbrev pub is_some_on : Devices → Bool
is_some_on devices = list_any (λ (device : Device). device.on) (values devices)

-- whether a name's device takes jobs; a name that is unknown has none
abbrev pub is_on_in : (devices : Devices) (name : List ℕ) → Bool
is_on_in devices name = option_map_or (λ (device : Device). device.on) (get devices name) false

-- a new device has rate 1, a known one keeps its rate
abbrev pub rate_of : (devices : Devices) (name : List ℕ) → ℕ
rate_of devices name = option_map_or (λ (device : Device). device.rate) (get devices name) 1

-- ---- as one device of it changes

-- the name's device is switched on or off
abbrev pub switched : (devices : Devices) (name : List ℕ) (on : Bool) → Devices
switched devices name on =
    insert devices name (record { name = name; on = on; rate = rate_of devices name })

-- the name's device has another rate
abbrev pub rated : (devices : Devices) (name : List ℕ) (units : ℕ) → Devices
rated devices name units =
    insert devices name (record { name = name; on = is_on_in devices name; rate = units })
