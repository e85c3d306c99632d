-- What the look-up of a job by any number reads (all this project's own).
use Rattle.std.specs.Prelude.{◌≡◌, ℕ, pos, List, IsTrue}
use Rattle.sqlite.specs.Effect.{Database}
use Rattle.account_rules.specs.Limits.{may_be_job}
use Rattle.rows_statements.specs.Shown.{IsJob}
use Rattle.rows_statements.specs.SoundRows.{IsRowOf}
use Rattle.rows_tables.specs.Accounts.{job_at}
use Rattle.rows_tables.specs.Cells.{job_cells}

-- ---- rows of an account

-- a job; one that may have no such number is not looked for
abbrev pub JobIsReadable : (name : List ℕ) (number : ℕ) (db : Database) → Type 0
JobIsReadable name number db = IsTrue (may_be_job number)
    → IsRowOf (job_cells name) (λ it. (it.job ≡ number) × IsJob it) (job_at db name (pos number))
