-- The units that an impression counts on a device (this project's own).
use Rattle.std.specs.Prelude.{◌≡◌, ℕ, List, Some}
use Rattle.std.specs.FinMap.{get}
use Rattle.account_rules.specs.declared.device.Device.{Device}
use Rattle.account_rules.specs.Devices.{Devices}
use Rattle.account_rules.specs.Limits.{IsRate}

abbrev pub HasRate : (device : Device) → Type 0
HasRate device = IsRate device.rate

-- each device has such a rate
abbrev pub AreRated : (devices : Devices) → Type 0
AreRated devices =
    (name : List ℕ) (device : Device) → get devices name ≡ Some device → HasRate device
