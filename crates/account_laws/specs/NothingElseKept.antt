-- All that there is of an account was asked and told (this project's own).
use Rattle.std.specs.Prelude.{◌≡◌, Option}
use Rattle.account_laws.specs.AccountsTold.{account_told}
use Rattle.account_lives.specs.Lives.{IsLife, Life}
use Rattle.account_rules.specs.Devices.{Devices}
use Rattle.account_state.specs.Rooms.{RoomValue}

-- Two lives that tell the same leave the same account, with every job and every document, and the
-- same devices. So nothing else is kept, and whatever comes then is answered the same.
abbrev pub NothingElseIsKept : Type 0
NothingElseIsKept =
    (life another : Life) (room other : Option RoomValue) (devices known : Devices)
    → IsLife life room devices → IsLife another other known
    → account_told life ≡ account_told another
    → (room ≡ other) × (devices ≡ known)
