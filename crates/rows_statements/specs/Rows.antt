-- The rows that each change sets, one write after another (all this project's own). The tables as
-- they stand between two writes are those of no event.
use Rattle.std.specs.Prelude.{◌≡◌, ℕ, ◌+◌, Bool, true, false, pos, ⊤, List, [], ◌∷◌, Option, Some, None}
use Rattle.sqlite_value.specs.declared.value.Value.TheVariants.{Text}
use Rattle.sqlite.specs.Effect.{Database}
use Rattle.account_rules.specs.declared.job.Document.{Document}
use Rattle.account_rules.specs.declared.job.Job.{Job}
use Rattle.account_rules.specs.declared.job.Standing.{Standing}
use Rattle.rows_statements.specs.Updates.{SetsNextJob, SetsStanding}
use Rattle.rows_tables.specs.Places.{job_places}
use Rattle.rows_tables.specs.Tables.{job as job_table, document as document_table, device as device_table, rates as rates_table}
use Rattle.rows_tables.specs.Keyed.{SetsRow, RemovesRows}
use Rattle.rows_tables.specs.Cells.{number, job_cells, document_cells, on_cells, units_cells}
use Rattle.rows_tables.specs.Accounts.{document_at, job_at}

-- one document more, if there is one
abbrev pub AddsDocument : (name : List ℕ) (first : Option Document) (old new : Database) → Type 0
AddsDocument name None old new = new ≡ old
AddsDocument name (Some it) old new = SetsRow document_table (document_cells name it) old new

-- its place is free
abbrev pub IsFree : (name : List ℕ) (first : Option Document) (db : Database) → Type 0
IsFree name None db = ⊤
IsFree name (Some it) db = document_at db name (pos it.job) (pos it.number) ≡ None

-- a job with its first document or with none, and the number after it
pub record AddsJob
    (name : List ℕ) (it : Job) (first : Option Document) (old new : Database) : Type 0 where
  pub with_job : Database
  pub with_document : Database
  pub job_row : SetsRow job_table (job_cells name it) old with_job
  pub was_free : job_at old name (pos it.job) ≡ None
  pub document_row : AddsDocument name first with_job with_document
  pub account_row : SetsNextJob name (it.job + 1) with_document new

-- a job takes its next document or none, and its standing changes
pub record Restands
    (name : List ℕ) (number : ℕ) (standing : Standing) (next : Option Document)
    (old new : Database) : Type 0 where
  pub with_document : Database
  pub document_row : AddsDocument name next old with_document
  pub job_row : SetsStanding name number standing with_document new

-- a job has ended, and its documents are gone
pub record EndsJob
    (name : List ℕ) (job : ℕ) (standing : Standing) (old new : Database) : Type 0 where
  pub with_standing : Database
  pub job_row : SetsStanding name job standing old with_standing
  pub document_rows :
      RemovesRows document_table (Text name ∷ number job ∷ []) job_places with_standing new

-- a device that is new has rate 1
abbrev pub RatesNew : (name : List ℕ) (is_new : Bool) (old new : Database) → Type 0
RatesNew name true old new = SetsRow rates_table (units_cells name 1) old new
RatesNew name false old new = new ≡ old

pub record SetsDevice (name : List ℕ) (on is_new : Bool) (old new : Database) : Type 0 where
  pub with_device : Database
  pub device_row : SetsRow device_table (on_cells name on) old with_device
  pub rate_row : RatesNew name is_new with_device new
