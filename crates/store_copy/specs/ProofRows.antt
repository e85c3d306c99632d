-- For the proof of the code alone: rows that are written to the copy one after another (all this
-- project's own).
use Rattle.std.specs.Prelude.{◌≡◌, ℕ, List, [], ◌∷◌}
use Rattle.sqlite.specs.Effect.{Database}
use Rattle.account_rules.specs.declared.account.Grant.{Grant}
use Rattle.account_rules.specs.declared.job.Document.{Document}
use Rattle.account_rules.specs.declared.device.Device.{Device}
use Rattle.rows_tables.specs.Tables.{document as document_table, grants as grants_table, device as device_table, rates as rates_table}
use Rattle.rows_tables.specs.Keyed.{SetsRow}
use Rattle.rows_tables.specs.Cells.{document_cells, grant_cells, device_cells, rate_cells}

-- the documents, as documents of this job
abbrev pub AddsDocuments : (name : List ℕ) (job : ℕ) (documents : List Document)
    (before after : Database) → Type 0
AddsDocuments name job [] before after = after ≡ before
AddsDocuments name job (it ∷ documents) before after = (next : Database)
    × SetsRow document_table (document_cells name (record it { job = job })) before next
    × AddsDocuments name job documents next after

abbrev pub AddsGrants : (name : List ℕ) (grants : List Grant) (before after : Database) → Type 0
AddsGrants name [] before after = after ≡ before
AddsGrants name (it ∷ grants) before after = (next : Database)
    × SetsRow grants_table (grant_cells name it.month it.pages) before next
    × AddsGrants name grants next after

-- a device has a row in each of two tables
pub record AddsDevice (it : Device) (before after : Database) : Type 0 where
  pub with_device : Database
  pub device_row : SetsRow device_table (device_cells it) before with_device
  pub rate_row : SetsRow rates_table (rate_cells it) with_device after

abbrev pub AddsDevices : (devices : List Device) (before after : Database) → Type 0
AddsDevices [] before after = after ≡ before
AddsDevices (it ∷ devices) before after = (next : Database)
    × AddsDevice it before next × AddsDevices devices next after
