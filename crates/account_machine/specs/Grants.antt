-- Rule: What a grant is answered (this project's own).
use Rattle.std.specs.Prelude.{ℕ}
use Rattle.std.specs.FinMap.{get}
use Rattle.account_replies.specs.Grants.{grant_refusal}
use Rattle.account_machine.specs.Steps.{Step, refusing_or, telling}
use Rattle.account_state.specs.Changes.{with_grant}
use Rattle.account_state.specs.Rooms.{RoomValue}
use Rattle.account_replies.specs.declared.station_line.Success.TheVariants as success

-- the month has its pages for good, unless it had some
abbrev pub granted : (room : RoomValue) (month pages : ℕ) → Step
granted room month pages =
    refusing_or room (grant_refusal (get room.grants month) pages) (λ _.
    telling (with_grant room month pages) success.Ok)
