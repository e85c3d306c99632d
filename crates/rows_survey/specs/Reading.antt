-- What a survey for the overview page reads of an account (all this project's own).
use Rattle.std.specs.Prelude.{ℕ, List, None}
use Rattle.sqlite.specs.Effect.{Database}
use Rattle.rows_statements.specs.Queues.{by_rising_number, IsNumbered}
use Rattle.rows_statements.specs.SoundRows.{CanBeAdded, CanBeSummed, FirstAreRowsOf, grant_rows, job_rows, unfinished_rows}
use Rattle.rows_tables.specs.Accounts.{IsSound}
use Rattle.rows_tables.specs.Cells.{job_cells}
use Rattle.rows_tables.specs.Keyed.{HasSchema}

-- all jobs, those that have not ended, and the grants up to the month
pub record SurveyIsReadable (name : List ℕ) (month : ℕ) (db : Database) : Type 0 where
  pub jobs : CanBeSummed name (job_rows db name)
  pub unfinished : FirstAreRowsOf (job_cells name) IsNumbered by_rising_number None
      (unfinished_rows db name)
  pub grants : CanBeAdded name month (grant_rows db name)

-- sound rows can be read so
abbrev pub SoundRowsAreSurveyed : Type 0
SoundRowsAreSurveyed = (db : Database) (name : List ℕ) (month : ℕ) → HasSchema db
    → IsSound db name → SurveyIsReadable name month db
