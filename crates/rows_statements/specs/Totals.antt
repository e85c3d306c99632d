-- How the rows of an account, or of the devices, are added up or counted, one after another (all
-- this project's own).
use Rattle.std.specs.Prelude.{◌≡◌, ◌≢◌, ◌||◌, Bool, ℕ, ◌+◌, ◌<◌, ◌≤◌, [], ◌∷◌, Some, None}
use Rattle.sqlite_value.specs.Order.{Row, column}
use Rattle.account_rules.specs.Limits.{most_unfinished, most_units}
use Rattle.account_rules.specs.JobStates.{state_number}
use Rattle.account_rules.specs.declared.job.JobState.{JobState}
use Rattle.account_state.specs.declared.tally.Tally.{Tally}
use Rattle.account_state.specs.Tallies.{counted_in_bounds}
use Rattle.account_state.specs.Sums.{pages_by}
use Rattle.rows_tables.specs.Places.{job_column, grant_column, cell}
use Rattle.rows_tables.specs.Cells.{flag, number}
use Rattle.rows_statements.specs.declared.grants.Granted.{Granted}

-- ---- its jobs

-- the cells of a job that are counted: its state, and the units that it reserves and was charged
abbrev pub counted_cells : Row → Row
counted_cells cells =
    cell job_column.state cells ∷ cell job_column.reserved cells ∷ cell job_column.charged cells
    ∷ []

pub record TellsCounted (row : Row) (job : JobState) (reserves charges : ℕ) : Type 0 where
  pub state : column row 0 ≡ number (state_number job)
  pub reserved : column row 1 ≡ number reserves
  pub charged : column row 2 ≡ number charges

-- the row tells a job, which is counted
pub record CountsJob (first : Tally) (row : Row) (last : Tally) : Type 0 where
  pub state : JobState
  pub reserved : ℕ
  pub charged : ℕ
  pub told : TellsCounted row state reserved charged
  pub counted : counted_in_bounds first state reserved charged ≡ Some last

-- it tells none that can be counted
abbrev pub refuses_job : Tally → Row → Type 0
refuses_job first row =
    (state : JobState) (reserved charged : ℕ) → TellsCounted row state reserved charged
    → counted_in_bounds first state reserved charged ≡ None

-- ---- its jobs that have not ended, by number alone

abbrev pub number_cell : Row → Row
number_cell cells = cell job_column.job cells ∷ []

-- one more is there, whatever its number
abbrev pub counts_one : (first : ℕ) → Row → (last : ℕ) → Type 0
counts_one first row last = (last ≡ first + 1) × (last ≤ most_unfinished)

-- an account may have no more
abbrev pub refuses_one : (first : ℕ) → Row → Type 0
refuses_one first row = most_unfinished ≤ first

-- ---- its grants

-- the cells of a grant after the account
abbrev pub granted_cells : Row → Row
granted_cells cells = cell grant_column.month cells ∷ cell grant_column.pages cells ∷ []

pub record TellsGrant (row : Row) (of_month granted : ℕ) : Type 0 where
  pub month : column row 0 ≡ number of_month
  pub pages : column row 1 ≡ number granted

-- the row tells a grant, whose pages are added if its month has come
pub record AddsGrant (now first : ℕ) (row : Row) (last : ℕ) : Type 0 where
  pub month : ℕ
  pub pages : ℕ
  pub told : TellsGrant row month pages
  pub added : last ≡ first + pages_by now (month, pages)
  pub within : first ≤ most_units → last ≤ most_units

-- as a walk over the grants gathers it: the month stays
abbrev pub gathers_grant : Granted → Row → Granted → Type 0
gathers_grant first row last =
    (last.month ≡ first.month) × AddsGrant first.month first.pages row last.pages

-- it tells none that can be added
abbrev pub refuses_grant : (now first : ℕ) → Row → Type 0
refuses_grant now first row = (month pages : ℕ) → TellsGrant row month pages
    → most_units < first + pages_by now (month, pages)

-- ---- the devices

-- the row tells whether its device takes jobs, which is added
pub record GathersOn (first : Bool) (row : Row) (last : Bool) : Type 0 where
  pub accepting : Bool
  pub told : column row 0 ≡ flag accepting
  pub added : last ≡ (first || accepting)

abbrev pub refuses_flag : Row → Type 0
refuses_flag row = (accepting : Bool) → column row 0 ≢ flag accepting
