-- A life of events within their limits leaves a room.
use Rattle.std.proofs.Common.{ℕ, sym, ◌∙◌, List, [], ◌∷◌, ◌++◌, Option, Some, None, All, nat_lt, length, true, false, Bool}
use Rattle.std.specs.FinMap.{get-empty}
use Rattle.std.specs.Prelude.{IfSome}
use Rattle.std.proofs.lemmas.List.Elements.{All-cons, All-head, All-nil, All-tail}
use Rattle.std.proofs.lemmas.Option.{none-some}
use Rattle.ipp_coding.specs.Limits.{header_length}
use Rattle.account_machine.specs.DeviceEvents.{device_answered}
use Rattle.account_machine.specs.Events.{AccountEvent, DeviceEvent, Ipp, OfAccount, OfDevice, Open}
use Rattle.account_machine.specs.Machine.{answered, answered_unopened}
use Rattle.account_laws.proofs.Changes.{makes_one}
use Rattle.account_laws.proofs.DevicesStay.{AreDevices, devices_stay}
use Rattle.account_lives.proofs.LifeLemmas.{account_exchange, device_exchange, of_each_life, unopened_answer}
use Rattle.account_laws.proofs.StepsKeepRooms.{event_keeps}
use Rattle.account_lives.specs.Lives.{Exchange, Life}
use Rattle.account_laws.specs.RoomsStay.{IsEvent, RoomsStay}
use Rattle.account_rules.specs.Devices.{Devices, name_cmp}
use Rattle.account_rules.specs.Limits.{IsMoment}
use Rattle.account_state.specs.RoomRules.{IsRoom}
use Rattle.account_state.specs.Rooms.{RoomValue}
use Rattle.account_state.proofs.RoomLemmas.{empty_room_keeps}

record Stays (room : Option RoomValue) (devices : Devices) : Type 0 where
  pub rules : IfSome room IsRoom
  pub known : AreDevices devices

abbrev AreEvents : Life → Type 0
AreEvents life = All (λ (x : Exchange). IsEvent x.0) life

abbrev StaysSo : Life → Option RoomValue → Devices → Type 0
StaysSo life room devices = AreEvents life → Stays room devices

-- all that came before, and the one behind it
record AreBoth (past : Life) (x : Exchange) : Type 0 where
  pub all : AreEvents past
  pub one : IsEvent x.0

abbrev Fits : Exchange → Type 0
Fits x = IsEvent x.0

both : (past : Life) (x : Exchange) → AreEvents (past ++ x ∷ []) → AreBoth past x
both [] x are = record { all = All-nil Fits; one = All-head Fits x [] are }
both (first ∷ past) x are =
    let rest = both past x (All-tail Fits first (past ++ x ∷ []) are) in
    record { all = All-cons Fits first past (All-head Fits first (past ++ x ∷ []) are) rest.all; one = rest.one }

-- an account that is opened has a room
opened : (now : ℕ) (account : List ℕ) (event : AccountEvent) → IsMoment now → IfSome (answered_unopened now (OfAccount account event)).room IsRoom
opened now account Open moment = empty_room_keeps now moment
opened now account (Ipp body) moment = elim (nat_lt (length body) header_length) as (λ (b : Bool). IfSome (unopened_answer b).room IsRoom) [ true ↦ tt | false ↦ tt ]
opened now account _ moment = tt

by_account : (past : Life) (room : Option RoomValue) (devices : Devices) (now : ℕ) (account : List ℕ) (it : AccountEvent) → StaysSo past room devices
    → StaysSo (past ++ account_exchange room devices now account it ∷ []) (answered room devices now (OfAccount account it)).room devices
by_account past None devices now account it so are =
    let each = both past (account_exchange None devices now account it) are in
    record { rules = opened now account it each.one.moment; known = (so each.all).known }
by_account past (Some room) devices now account it so are =
    let each = both past (account_exchange (Some room) devices now account it) are in
    let before = so each.all in
    record {
      rules = event_keeps room devices now account it _ _ before.rules before.known.named before.known.rated each.one.moment each.one.fit (makes_one room devices now account it);
      known = before.known;
    }

by_device : (past : Life) (room : Option RoomValue) (devices : Devices) (now : ℕ) (device : List ℕ) (it : DeviceEvent) → StaysSo past room devices
    → StaysSo (past ++ device_exchange devices now device it ∷ []) room (device_answered devices (OfDevice device it)).devices
by_device past room devices now device it so are =
    let each = both past (device_exchange devices now device it) are in
    let before = so each.all in
    record { rules = before.rules; known = devices_stay devices device it each.one.named each.one.fit before.known }

pub rooms_stay : RoomsStay
rooms_stay life room devices is are =
    let stays = of_each_life StaysSo (record {
      begun = λ _. record { rules = tt; known = record { named = λ name device here. absurd (none-some device (sym (get-empty name_cmp name) ∙ here)); rated = λ name device here. absurd (none-some device (sym (get-empty name_cmp name) ∙ here)) } };
      by_account = by_account;
      by_device = by_device;
    }) life room devices is are in
    record { rules = stays.rules; named = stays.known.named; rated = stays.known.rated }
