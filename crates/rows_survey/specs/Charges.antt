-- How what an account's jobs were charged on each day of a month is added up, one job after another
-- (all this project's own).
use Rattle.std.specs.Prelude.{◌≡◌, ℕ, ◌+◌, ◌<◌, if◌then◌else◌, [], ◌∷◌, Option, slice_index}
use Rattle.sqlite_value.specs.Order.{Row, column}
use Rattle.page_overview.specs.Surveys.{is_on, told}
use Rattle.page_overview.specs.declared.days.TheConstants.{MOST_DAYS}
use Rattle.rows_tables.specs.Places.{job_column, cell}
use Rattle.rows_tables.specs.Cells.{moment, number}
use Rattle.rows_survey.specs.declared.charges.Charges.{Charges}

-- the cells of a job that are read: its charge, and the moment of its end
abbrev pub charged_cells : Row → Row
charged_cells cells = cell job_column.charged cells ∷ cell job_column.ended cells ∷ []

pub record TellsCharge (row : Row) (charged : ℕ) (ended : Option ℕ) : Type 0 where
  pub charge : column row 0 ≡ number charged
  pub end : column row 1 ≡ moment ended

-- it is added on the day of the end; the other days stay, and the month does
pub record AddsUnits (charged : ℕ) (ended : Option ℕ) (first last : Charges) : Type 0 where
  pub month : last.month ≡ first.month
  pub days : (place : ℕ) → place < MOST_DAYS → slice_index last.days place
      ≡ (if is_on first.month place ended
      then told (slice_index first.days place + charged)
      else slice_index first.days place)

-- the row tells a charge, which is added
pub record AddsCharge (first : Charges) (row : Row) (last : Charges) : Type 0 where
  pub charged : ℕ
  pub ended : Option ℕ
  pub told_so : TellsCharge row charged ended
  pub added : AddsUnits charged ended first last

-- it tells none
abbrev pub refuses_charge : Row → Type 0
refuses_charge row = (charged : ℕ) (ended : Option ℕ) → TellsCharge row charged ended → ⊥
