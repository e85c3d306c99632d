-- What an account's jobs reserve and were charged, and how many are unfinished, by the rows of its
-- jobs alone, whatever its other rows are (all this project's own).
use Rattle.std.specs.Prelude.{◌≡◌, if◌then◌else◌, ℕ, ◌+◌, ℤ, List, length, Some, is_some, option_map}
use Rattle.std.specs.List.{sum_by}
use Rattle.std.specs.Ordering.{nat_cmp}
use Rattle.std.specs.FinMap.{FinMap, get, values}
use Rattle.sqlite.specs.Effect.{Database}
use Rattle.account_rules.specs.declared.job.Job.{Job}
use Rattle.account_rules.specs.declared.job.Standing.{Standing}
use Rattle.rows_tables.specs.Accounts.{job_at, under}
use Rattle.rows_tables.specs.Cells.{job_cells}
use Rattle.rows_tables.specs.Keyed.{HasSchema}
use Rattle.rows_statements.specs.SoundRows.{unfinished_rows}

-- the rows of the account's jobs are those of these jobs, which may break rules
pub record HoldsJobs (db : Database) (name : List ℕ) (jobs : FinMap nat_cmp Job) : Type 0 where
  pub rows : (number : ℤ) → job_at db name number ≡ option_map (job_cells name) (under jobs number)
  pub numbered : (number : ℕ) (it : Job) → get jobs number ≡ Some it → it.job ≡ number

abbrev pub reserves : Job → ℕ
reserves job = job.standing.reserved

abbrev pub charges : Job → ℕ
charges job = job.standing.charged

-- adding up its jobs gives so many units
abbrev pub IsSum : (of : Job → ℕ) (db : Database) (name : List ℕ) (units : ℕ) → Type 0
IsSum of db name units =
    (jobs : FinMap nat_cmp Job) → HoldsJobs db name jobs → units ≡ sum_by of (values jobs)

-- one of its jobs came to so much, and now does
abbrev pub MovesSum : (of : Job → ℕ) (name : List ℕ) (was is : ℕ) (before after : Database) → Type 0
MovesSum of name was is before after =
    (units : ℕ) → IsSum of before name (units + was) → IsSum of after name (units + is)

-- so many rows of its jobs tell no moment of an end
abbrev pub IsCounted : (db : Database) (name : List ℕ) (count : ℕ) → Type 0
IsCounted db name count = count ≡ length (unfinished_rows db name)

-- a job counts one until it ends
abbrev pub counts : Standing → ℕ
counts standing = if is_some standing.ended then 0 else 1

-- one of its jobs counted so much, and now does
abbrev pub MovesCount : (name : List ℕ) (was is : ℕ) (before after : Database) → Type 0
MovesCount name was is before after = HasSchema before → HasSchema after → (count : ℕ)
    → IsCounted before name (count + was) → IsCounted after name (count + is)
