-- Rule: What a station may do (all this project's own).
use Rattle.std.specs.Prelude.{ℕ, ◌+◌, ℤ, pos, ◌+ℤ◌, ◌-ℤ◌, Bool, true, false, if◌then◌else◌, Option, Some, None, Result, Ok, Err}
use Rattle.account_rules.specs.declared.device.Device.{Device}
use Rattle.account_rules.specs.declared.job.Standing.{Standing}
use Rattle.account_rules.specs.declared.refusal.Word.{Word}
use Rattle.account_rules.specs.declared.refusal.Word.TheVariants.{NoDevice, DeviceOff}

-- a station speaks for a device of which something is known
abbrev pub known_device : {D : Type 0} (found : Option D) → Result D Word
known_device None = Err NoDevice
known_device (Some known) = Ok known

-- and releases and starts jobs only while the device takes them
abbrev pub check_on : (on : Bool) → Result (Unit {0}) Word
check_on true = Ok tt
check_on false = Err DeviceOff

abbrev pub ready_device : (found : Option Device) → Result Device Word
ready_device None = Err NoDevice
ready_device (Some device) = if device.on then Ok device else Err DeviceOff

-- ---- what is left of the quota once one job's standing has changed

-- the units that a job takes
abbrev pub units_of : (standing : Standing) → ℕ
units_of standing = standing.reserved + standing.charged

abbrev pub left_after : (left : ℤ) (before after : Standing) → ℤ
left_after left before after = (left +ℤ pos (units_of before)) -ℤ pos (units_of after)
