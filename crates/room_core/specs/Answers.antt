-- What a call of the machine in memory answers and leaves, by its definition in account_machine.
use Rattle.std.specs.Prelude.{◌≡◌, ℕ, List, Option, Result, IfOk}
use Rattle.account_machine.specs.declared.event.Reply.{Reply}
use Rattle.account_machine.specs.DeviceEvents.{DeviceAnswer}
use Rattle.account_machine.specs.Machine.{Answer}
use Rattle.account_machine.specs.Requests.{Response}
use Rattle.account_machine.specs.Steps.{Step}
use Rattle.account_rules.specs.Devices.{Devices}
use Rattle.account_state.specs.Rooms.{RoomValue}

-- where there is a reply, it and the room are those of the step
abbrev pub IsStep : {E : Type 0} (result : Result Reply E) (room : RoomValue) (step : Step) → Type 0
IsStep result room step = IfOk result (λ reply. (reply ≡ step.reply) × (room ≡ step.room))

-- where there is a text, it and the room are those of the response
abbrev pub IsResponse :
    {E : Type 0} (result : Result (List ℕ) E) (room : RoomValue) (response : Response) →
    Type 0
IsResponse result room response =
    IfOk result (λ text. (text ≡ response.text) × (room ≡ response.room))

-- where there is a reply, it and the room are those of the answer
abbrev pub IsAnswer :
    {E : Type 0} (result : Result Reply E) (room : Option RoomValue) (answer : Answer) →
    Type 0
IsAnswer result room answer = IfOk result (λ reply. (reply ≡ answer.reply) × (room ≡ answer.room))

-- where there is a reply, it and the devices are those of the answer
abbrev pub IsDeviceAnswer :
    {E : Type 0} (result : Result Reply E) (devices : Devices) (answer : DeviceAnswer) →
    Type 0
IsDeviceAnswer result devices answer =
    IfOk result (λ reply. (reply ≡ answer.reply) × (devices ≡ answer.devices))
