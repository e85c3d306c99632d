-- For the proof of the code alone: that an account or a job stands in its row of the tables.
use Rattle.std.specs.Prelude.{◌≡◌, ℕ, pos, List, Some}
use Rattle.sqlite.specs.Effect.{Database}
use Rattle.account_rules.specs.declared.account.Account.{Account}
use Rattle.account_rules.specs.declared.job.Job.{Job}
use Rattle.rows_tables.specs.Accounts.{account_at, job_at}
use Rattle.rows_tables.specs.Cells.{account_cells, job_cells}

-- it is open, and this is its own row
abbrev pub HasAccountRow : (name : List ℕ) (account : Account) (db : Database) → Type 0
HasAccountRow name account db = account_at db name ≡ Some (account_cells name account)

-- the row of the job is there under its number
abbrev pub HasJobRow : (name : List ℕ) (job : Job) (db : Database) → Type 0
HasJobRow name job db = job_at db name (pos job.job) ≡ Some (job_cells name job)
