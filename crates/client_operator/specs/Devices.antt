-- Rule: What `report --devices` asks and prints (this project's own).
use Rattle.std.specs.Prelude.{ℕ, List, [], ◌∷◌, ◌++◌, codes, map}
use Rattle.std.specs.List.{flat_map}
use Rattle.client_operator.specs.Csv.{record_text}
use Rattle.client_operator.specs.Lines.{line_of}
use Rattle.client_operator.specs.Talks.{At, AsksList, Prints}

-- a device, as it was told
pub record Device : Type 0 where
  pub name : List ℕ
  pub switch : List ℕ
  pub rate : List ℕ

abbrev pub device_told : Device → List ℕ
device_told device = line_of (codes "device" ∷ device.name ∷ device.switch ∷ device.rate ∷ [])

abbrev pub device_text : Device → List ℕ
device_text device = record_text (device.name ∷ device.switch ∷ device.rate ∷ [])

abbrev pub devices_head : List ℕ
devices_head = record_text (codes "device" ∷ codes "switch" ∷ codes "rate" ∷ [])

-- the devices were asked for, and the header and their records printed, in order
pub record ReportsDevices (from to : At) : Type 0 where
  pub devices : List Device
  pub mid : At
  pub asks : AsksList from mid (codes "devices") (map device_told devices)
  pub prints : Prints mid to (devices_head ++ flat_map device_text devices)
