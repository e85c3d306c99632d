-- An account that is partly copied: its own row first, then its jobs, number after number, and its
-- grants last (all this project's own).
use Rattle.std.specs.Prelude.{◌≡◌, ℕ, List, IsSome}
use Rattle.sqlite.specs.Effect.{Database}
use Rattle.account_state.specs.Rooms.{RoomValue}
use Rattle.rows_tables.specs.Accounts.{account_at, HoldsRoom, HoldsRows}
use Rattle.rows_statements.specs.Alone.{OnlyAccount}
use Rattle.store_copy.specs.ProofParts.{HasJobsBefore, IsPartOf}

-- the copy's rows are a part of the room, whose own next job is `next`: its jobs before `job` are
-- there with their documents
pub record HoldsPart (copy : Database) (name : List ℕ) (next job : ℕ) (room : RoomValue)
    : Type 0 where
  pub own_next : room.next ≡ next
  pub part : RoomValue
  pub rows : HoldsRows copy name part
  pub is_part : IsPartOf room part
  pub jobs : HasJobsBefore job room part

-- the source has the account, and so it is of the room that it is there
pub record IsPartly (name : List ℕ) (next job : ℕ) (source copy : Database) : Type 0 where
  pub there : IsSome (account_at source name)
  pub part : (room : RoomValue) → HoldsRoom source name room → HoldsPart copy name next job room

-- the jobs from `job` on that come before `further` are copied
pub record AddsJobs (name : List ℕ) (job further : ℕ) (source before after : Database)
    : Type 0 where
  pub added : (next : ℕ)
      → IsPartly name next job source before → IsPartly name next further source after
  pub alone : OnlyAccount name before after
