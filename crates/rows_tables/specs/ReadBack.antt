-- A row that was written is read back as itself: no two values have one row.
use Rattle.std.specs.Prelude.{◌≡◌, ℕ, List}
use Rattle.account_rules.specs.Names.{IsNameOrNone}
use Rattle.account_rules.specs.declared.account.Account.{Account}
use Rattle.account_rules.specs.declared.job.Job.{Job}
use Rattle.account_rules.specs.declared.job.Document.{Document}
use Rattle.account_rules.specs.declared.device.Device.{Device}
use Rattle.rows_tables.specs.Cells.{account_cells, job_cells, document_cells, grant_cells, device_cells, rate_cells}

pub record RowsAreReadBack : Type 0 where
  pub accounts : (name other : List ℕ) (a b : Account)
      → account_cells name a ≡ account_cells other b → (name ≡ other) × (a ≡ b)
  pub jobs : (name other : List ℕ) (a b : Job) → IsNameOrNone a.standing.device
      → IsNameOrNone b.standing.device → job_cells name a ≡ job_cells other b
      → (name ≡ other) × (a ≡ b)
  pub documents : (name other : List ℕ) (a b : Document)
      → document_cells name a ≡ document_cells other b → (name ≡ other) × (a ≡ b)
  pub grants : (name other : List ℕ) (month pages later more : ℕ)
      → grant_cells name month pages ≡ grant_cells other later more
      → (name ≡ other) × (month ≡ later) × (pages ≡ more)
  pub devices : (a b : Device) → device_cells a ≡ device_cells b
      → rate_cells a ≡ rate_cells b → a ≡ b
