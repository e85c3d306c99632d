-- All that an account was asked and answered, from the making of the file on (all this project's
-- own).
use Rattle.std.specs.Prelude.{◌≡◌, List, [], ◌∷◌, ◌++◌, Option, None}
use Rattle.std.specs.FinMap.{empty}
use Rattle.account_machine.specs.DeviceEvents.{device_answered}
use Rattle.account_machine.specs.Events.{Timed, OfAccount, OfDevice}
use Rattle.account_machine.specs.Machine.{answered}
use Rattle.account_machine.specs.declared.event.Reply.{Reply}
use Rattle.account_rules.specs.Devices.{Devices}
use Rattle.account_state.specs.Rooms.{RoomValue}

-- an event with its moment, and what was answered to it
abbrev pub Exchange : Type 0
Exchange = Timed × Reply

-- the events of one account and those of devices that were answered, in their order
abbrev pub Life : Type 0
Life = List Exchange

-- Each event was answered as the machine of the account, or that of the devices, answers it, from
-- this room and these devices on; and these are left.
abbrev pub LeadsTo :
    (room : Option RoomValue) (devices : Devices) (life : Life) (left : Option RoomValue)
    (known : Devices) → Type 0
LeadsTo room devices [] left known = (left ≡ room) × (known ≡ devices)
LeadsTo room devices (((now, OfAccount account it), told) ∷ life) left known =
    let answer = answered room devices now (OfAccount account it) in
    (told ≡ answer.reply) × LeadsTo answer.room devices life left known
LeadsTo room devices (((now, OfDevice device it), told) ∷ life) left known =
    let answer = device_answered devices (OfDevice device it) in
    (told ≡ answer.reply) × LeadsTo room answer.devices life left known

-- it began where there was no account and no device, so nothing came before it
abbrev pub IsLife : (life : Life) (room : Option RoomValue) (devices : Devices) → Type 0
IsLife life room devices = LeadsTo None empty life room devices

-- what holds of every life
abbrev pub OfLives : (Life → Type 0) → Type 0
OfLives Law = (life : Life) (room : Option RoomValue) (devices : Devices)
    → IsLife life room devices → Law life

-- ---- what follows

-- what leads on from what a life left is more of that life
abbrev pub LivesGoOn : Type 0
LivesGoOn =
    (life more : Life) (room left : Option RoomValue) (devices known : Devices)
    → IsLife life room devices → LeadsTo room devices more left known
    → IsLife (life ++ more) left known

-- a life leaves one room and one set of devices: whoever has the life has these
abbrev pub LivesLeaveOne : Type 0
LivesLeaveOne =
    (life : Life) (room other : Option RoomValue) (devices others : Devices)
    → IsLife life room devices → IsLife life other others → (room ≡ other) × (devices ≡ others)
