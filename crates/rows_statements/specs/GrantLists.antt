-- The grants of an account by month, row by row (all this project's own).
use Rattle.std.specs.Prelude.{◌≡◌, ℕ, List, [], ◌∷◌, ◌++◌, map, IsPermutation}
use Rattle.std.specs.FinMap.{entries}
use Rattle.sqlite_value.specs.Order.{Row}
use Rattle.sqlite.specs.Effect.{Database}
use Rattle.account_rules.specs.declared.account.Grant.{Grant}
use Rattle.account_state.specs.Rooms.{RoomValue}
use Rattle.account_state.specs.RoomRules.{IsGrant}
use Rattle.rows_tables.specs.Cells.{number}
use Rattle.rows_tables.specs.Accounts.{HoldsRoom}
use Rattle.rows_statements.specs.SoundRows.{grant_rows}
use Rattle.rows_statements.specs.Totals.{granted_cells, TellsGrant}

-- its month and its pages are those of a grant
abbrev pub IsInRange : Grant → Type 0
IsInRange grant = IsGrant grant.month grant.pages

-- the row tells a grant, which is put at the end
pub record ListsGrant (first : List Grant) (row : Row) (last : List Grant) : Type 0 where
  pub grant : Grant
  pub in_range : IsInRange grant
  pub told : TellsGrant row grant.month grant.pages
  pub added : last ≡ first ++ grant ∷ []

abbrev pub tells_no_grant : Row → Type 0
tells_no_grant row = (month pages : ℕ) → IsGrant month pages → TellsGrant row month pages → ⊥

-- the cells of a month and its pages
abbrev pub month_cells : (entry : ℕ × ℕ) → Row
month_cells entry = number entry.0 ∷ number entry.1 ∷ []

-- what is shown are the account's rows, and where they are a room's, its grants by month
pub record AreByMonth (db : Database) (name : List ℕ) (shown : List Row) : Type 0 where
  pub of_room : (room : RoomValue) → HoldsRoom db name room
      → shown ≡ map month_cells (entries room.grants)
  pub are_shown : IsPermutation (map granted_cells (grant_rows db name)) shown
