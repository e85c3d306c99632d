-- Which job the columns of a query stand for (all this project's own).
use Rattle.std.specs.Prelude.{◌≡◌, ◌≤◌, [], ◌∷◌, length}
use Rattle.sqlite_value.specs.declared.value.Value.TheVariants.{Blob}
use Rattle.sqlite_value.specs.Order.{Row, column}
use Rattle.account_rules.specs.JobStates.{state_number}
use Rattle.account_rules.specs.Limits.{longest_job_name, longest_password}
use Rattle.account_rules.specs.Standings.{IsStanding}
use Rattle.account_rules.specs.declared.job.Standing.{Standing}
use Rattle.account_rules.specs.declared.job.Job.{Job}
use Rattle.rows_tables.specs.Places.{job_column, cell}
use Rattle.rows_tables.specs.Cells.{number, flag, moment, device_text}

-- the cells of a job after its key
abbrev pub behind_key : Row → Row
behind_key cells =
    cell job_column.name cells ∷ cell job_column.password cells ∷ cell job_column.state cells
    ∷ cell job_column.is_open cells ∷ cell job_column.stopping cells ∷ cell job_column.copies cells
    ∷ cell job_column.impressions cells ∷ cell job_column.reserved cells
    ∷ cell job_column.charged cells ∷ cell job_column.documents cells ∷ cell job_column.rate cells
    ∷ cell job_column.device cells ∷ cell job_column.created cells ∷ cell job_column.started cells
    ∷ cell job_column.ended cells ∷ []

-- from the third column on, a standing
pub record ShowsStanding (row : Row) (s : Standing) : Type 0 where
  pub state : column row 2 ≡ number (state_number s.state)
  pub is_open : column row 3 ≡ flag s.is_open
  pub stopping : column row 4 ≡ flag s.stopping
  pub copies : column row 5 ≡ number s.copies
  pub impressions : column row 6 ≡ number s.impressions
  pub reserved : column row 7 ≡ number s.reserved
  pub charged : column row 8 ≡ number s.charged
  pub documents : column row 9 ≡ number s.documents
  pub rate : column row 10 ≡ number s.rate
  pub device : column row 11 ≡ device_text s.device
  pub created : column row 12 ≡ number s.created
  pub started : column row 13 ≡ moment s.started
  pub ended : column row 14 ≡ moment s.ended

-- its texts first
pub record ShowsJob (row : Row) (job : Job) : Type 0 where
  pub name : column row 0 ≡ Blob job.name
  pub password : column row 1 ≡ Blob job.password
  pub standing : ShowsStanding row job.standing

-- in the ranges that a job keeps
pub record IsJob (job : Job) : Type 0 where
  pub name_fits : length job.name ≤ longest_job_name
  pub password_fits : length job.password ≤ longest_password
  pub standing : IsStanding job.standing
