-- What the UPDATE statements make of the row that they change (all this project's own).
use Rattle.std.specs.Prelude.{◌≡◌, ℕ, pos, List, Some}
use Rattle.sqlite.specs.Effect.{Database}
use Rattle.account_rules.specs.declared.account.Account.{Account}
use Rattle.account_rules.specs.declared.job.Job.{Job}
use Rattle.account_rules.specs.declared.job.Standing.{Standing}
use Rattle.rows_tables.specs.Accounts.{account_at, job_at}
use Rattle.rows_tables.specs.Cells.{account_cells, job_cells}
use Rattle.rows_tables.specs.Keyed.{SetsRow}
use Rattle.rows_tables.specs.Tables.{account as account_table, job as job_table}

-- the account, if it is there, has this number for its next job
abbrev pub SetsNextJob : (name : List ℕ) (next_job : ℕ) (before after : Database) → Type 0
SetsNextJob name next_job before after =
    (it : Account) → account_at before name ≡ Some (account_cells name it)
    → SetsRow account_table (account_cells name (record it { next_job = next_job })) before after

-- the job, if it is there, has this standing
abbrev pub SetsStanding : (name : List ℕ) (number : ℕ) (standing : Standing)
    (before after : Database) → Type 0
SetsStanding name number standing before after =
    (it : Job) → job_at before name (pos number) ≡ Some (job_cells name it)
    → SetsRow job_table (job_cells name (record it { standing = standing })) before after
