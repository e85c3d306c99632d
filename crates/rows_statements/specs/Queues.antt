-- The jobs of an account in the orders of Get-Jobs, row by row (all this project's own).
use Rattle.std.specs.Prelude.{◌≡◌, ℕ, ◌<◌, ◌≤◌, ℤ, pos, negsuc, List, [], ◌∷◌, ◌++◌, map, IsPermutation, IsSorted, Option, None, Some}
use Rattle.std.specs.declared.cmp.Ordering.{Ordering}
use Rattle.std.specs.Ordering.{flip_args, on, then_cmp}
use Rattle.std.specs.FinMap.{values}
use Rattle.sqlite_value.specs.declared.value.Value.TheVariants.{Blob}
use Rattle.sqlite_value.specs.Order.{Row, column, value_cmp}
use Rattle.sqlite_sql.specs.Query.{limited}
use Rattle.sqlite.specs.Effect.{Database}
use Rattle.account_rules.specs.Limits.{last_next_job}
use Rattle.account_rules.specs.declared.job.Job.{Job}
use Rattle.account_state.specs.Rooms.{RoomValue}
use Rattle.rows_tables.specs.Places.{job_column, cell}
use Rattle.rows_tables.specs.Cells.{number, standing_cells}
use Rattle.rows_tables.specs.Accounts.{HoldsRoom}
use Rattle.rows_statements.specs.Shown.{behind_key, ShowsJob, IsJob}

-- as LIMIT counts, where a number below 0 is none (lang_select.html)
abbrev pub limit_number : Option ℕ → ℤ
limit_number None = negsuc 0
limit_number (Some limit) = pos limit

-- the cells of a job after its key, and then its number
abbrev pub numbered_cells : Job → Row
numbered_cells job =
    Blob job.name ∷ Blob job.password ∷ (standing_cells job.standing ++ number job.job ∷ [])

pub record ShowsNumbered (row : Row) (job : Job) : Type 0 where
  pub shown : ShowsJob row job
  pub numbered : column row 15 ≡ number job.job

-- a job under a number that an account can give it
pub record IsNumbered (job : Job) : Type 0 where
  pub in_range : IsJob job
  pub from_one : 1 ≤ job.job
  pub to_last : job.job < last_next_job

-- the row tells a job, which is put at the end
pub record ListsJob (first : List Job) (row : Row) (last : List Job) : Type 0 where
  pub job : Job
  pub numbered : IsNumbered job
  pub told : ShowsNumbered row job
  pub added : last ≡ first ++ job ∷ []

abbrev pub refuses_numbered : Row → Type 0
refuses_numbered row = (job : Job) → IsNumbered job → ShowsNumbered row job → ⊥

-- of a row of the table, the cells after the key, and then its number
abbrev pub listed_cells : Row → Row
listed_cells cells = behind_key cells ++ cell job_column.job cells ∷ []

-- ---- in which order, as SQL compares what stands in a column

-- by rising number
abbrev pub by_rising_number : Row → Row → Ordering
by_rising_number = on (cell job_column.job) value_cmp

-- by falling end, and of one end by falling number
abbrev pub by_falling_end : Row → Row → Ordering
by_falling_end = flip_args (then_cmp (on (cell job_column.ended) value_cmp) by_rising_number)

-- the first so many of the rows of a table in an order
pub record AreFirst (order : Row → Row → Ordering) (limit : Option ℕ) (rows first : List Row)
    : Type 0 where
  pub all : List Row
  pub same : IsPermutation rows all
  pub sorted : IsSorted order all
  pub are : first ≡ limited limit all

-- what is shown are the first so many of the rows, and where they are a room's, those of the jobs
-- that are chosen of it, in their order
pub record AreListed (chosen : List Job → List Job) (order : Row → Row → Ordering)
    (limit : Option ℕ) (rows : List Row) (db : Database) (name : List ℕ) (shown : List Row) : Type 0
  where
    pub of_room : (room : RoomValue) → HoldsRoom db name room
        → shown ≡ map numbered_cells (chosen (values room.jobs))
    pub first : List Row
    pub are_first : AreFirst order limit rows first
    pub are_shown : shown ≡ map listed_cells first
