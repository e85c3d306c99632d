-- Rule: What may happen to an account, or to a device (all this project's own).
use Rattle.std.specs.Prelude.{ℕ, Bool, List}
use Rattle.account_machine.specs.declared.event.Event.{Event}
use Rattle.account_machine.specs.declared.event.Event.TheVariants as lent

-- to an account
pub data AccountEvent : Type 0 where
  Open : AccountEvent
  Ipp : (body : List ℕ) → AccountEvent
  Release : (device : List ℕ) (job : ℕ) (password : List ℕ) (impressions : ℕ) → AccountEvent
  Start : (device : List ℕ) (job : ℕ) → AccountEvent
  Settle : (device : List ℕ) (job impressions : ℕ) (failed : Bool) → AccountEvent
  Grant : (month pages : ℕ) → AccountEvent

-- to a device
pub data DeviceEvent : Type 0 where
  Switch : (on : Bool) → DeviceEvent
  Rate : (units : ℕ) → DeviceEvent

-- an event by what it says, wherever its bytes lie: whose it is, and what it is
pub data PlainEvent : Type 0 where
  OfAccount : (account : List ℕ) → AccountEvent → PlainEvent
  OfDevice : (device : List ℕ) → DeviceEvent → PlainEvent

abbrev pub plain_event : Event → PlainEvent
plain_event (lent.Open account) = OfAccount account Open
plain_event (lent.Ipp account body) = OfAccount account (Ipp body.now)
plain_event (lent.Release device account job password impressions) =
    OfAccount account (Release device job password.now impressions)
plain_event (lent.Start device account job) = OfAccount account (Start device job)
plain_event (lent.Settle device account job impressions failed) =
    OfAccount account (Settle device job impressions failed)
plain_event (lent.Grant account month pages) = OfAccount account (Grant month pages)
plain_event (lent.Device name on) = OfDevice name (Switch on)
plain_event (lent.Rate name units) = OfDevice name (Rate units)

-- a moment, and what happens then
abbrev pub Timed : Type 0
Timed = ℕ × PlainEvent

abbrev pub plain_timed : ℕ × Event → Timed
plain_timed e = (e.0, plain_event e.1)
