-- What an account's own events, one after another, make of it by its machine, as if there were no
-- others; and the devices' of them (all this project's own).
use Rattle.std.specs.Prelude.{List, [], ◌∷◌, ◌++◌, Option, if◌then◌else◌}
use Rattle.account_machine.specs.DeviceEvents.{device_answered}
use Rattle.account_machine.specs.Machine.{Answer, answered}
use Rattle.account_machine.specs.declared.event.Reply.{Reply}
use Rattle.account_rules.specs.Devices.{Devices}
use Rattle.account_state.specs.Rooms.{RoomValue}
use Rattle.account_machine.specs.Events.{Timed}
use Rattle.room_serve.specs.Own.{is_of_device}

-- ---- an account

-- what it was told, and the room and the devices that there are then
pub record Alone : Type 0 where
  pub replies : List Reply
  pub room : Option RoomValue
  pub devices : Devices

-- one reply more, and the room as the answer leaves it
abbrev pub with_answer : (so_far : Alone) (answer : Answer) → Alone
with_answer so_far answer = record {
  replies = so_far.replies ++ answer.reply ∷ [];
  room = answer.room;
  devices = so_far.devices;
}

-- an event of a device changes the devices, any other is answered to the account
abbrev pub answer_next : Alone → Timed → Alone
answer_next so_far e =
    if is_of_device e.1
    then record so_far { devices = (device_answered so_far.devices e.1).devices }
    else with_answer so_far (answered so_far.room so_far.devices e.0 e.1)

abbrev pub answer_on : Alone → List Timed → Alone
answer_on so_far [] = so_far
answer_on so_far (e ∷ events) = answer_on (answer_next so_far e) events

abbrev pub alone : Option RoomValue → Devices → List Timed → Alone
alone room devices events =
    answer_on (record { replies = []; room = room; devices = devices }) events

-- ---- the devices

-- what was answered to their events, and what devices there are then
pub record DevicesAlone : Type 0 where
  pub replies : List Reply
  pub devices : Devices

abbrev pub change_next : DevicesAlone → Timed → DevicesAlone
change_next so_far e = record {
  replies = so_far.replies ++ (device_answered so_far.devices e.1).reply ∷ [];
  devices = (device_answered so_far.devices e.1).devices;
}

abbrev pub change_on : DevicesAlone → List Timed → DevicesAlone
change_on so_far [] = so_far
change_on so_far (e ∷ events) = change_on (change_next so_far e) events

abbrev pub devices_alone : Devices → List Timed → DevicesAlone
devices_alone devices events = change_on (record { replies = []; devices = devices }) events
