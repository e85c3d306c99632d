-- Rooms stay rooms (all this project's own).
use Rattle.std.specs.Prelude.{◌≡◌, ℕ, List, All, Option, Some, IfSome, IsTrue}
use Rattle.std.specs.FinMap.{get}
use Rattle.account_machine.specs.Events.{PlainEvent, Timed, OfAccount, OfDevice}
use Rattle.account_machine.specs.Fits.{fits}
use Rattle.account_machine.specs.Rates.{AreRated}
use Rattle.account_lives.specs.Lives.{Exchange, IsLife, Life}
use Rattle.account_rules.specs.Devices.{Devices}
use Rattle.account_rules.specs.Limits.{IsMoment}
use Rattle.account_rules.specs.Names.{is_name}
use Rattle.account_rules.specs.declared.device.Device.{Device}
use Rattle.account_state.specs.RoomRules.{IsRoom}
use Rattle.account_state.specs.Rooms.{RoomValue}

-- each device is known by a name
abbrev pub AreNamed : Devices → Type 0
AreNamed devices =
    (name : List ℕ) (device : Device) → get devices name ≡ Some device → IsTrue (is_name name)

-- an event of a device tells the device's name
abbrev pub IsNamed : PlainEvent → Type 0
IsNamed (OfAccount account event) = Unit {0}
IsNamed (OfDevice device event) = IsTrue (is_name device)

-- an event within its limits
pub record IsEvent (e : Timed) : Type 0 where
  pub moment : IsMoment e.0
  pub fit : IsTrue (fits e.1)
  pub named : IsNamed e.1

-- a room that keeps its rules, if there is one, among devices that have names and rates
pub record KeepsRules (room : Option RoomValue) (devices : Devices) : Type 0 where
  pub rules : IfSome room IsRoom
  pub named : AreNamed devices
  pub rated : AreRated devices

-- what a life leaves whose events lie within their limits
abbrev pub RoomsStay : Type 0
RoomsStay =
    (life : Life) (room : Option RoomValue) (devices : Devices) → IsLife life room devices
    → All (λ (x : Exchange). IsEvent x.0) life → KeepsRules room devices
