-- What a read can find in sound rows. A read tells `Damaged` only of what is none of these (all
-- this project's own).
use Rattle.std.specs.Prelude.{◌≡◌, ℕ, ◌≤◌, pos, negsuc, All, Bool, ⊤, List, [], ◌∷◌, length, map, filter, drop, IsPermutation, Option, Some, option_map, IfSome, IsSome, IsTrue}
use Rattle.std.specs.declared.cmp.Ordering.{Ordering}
use Rattle.std.specs.List.{sum_by}
use Rattle.sqlite_value.specs.declared.value.Value.TheVariants.{Int, Text}
use Rattle.sqlite_value.specs.declared.keys.Collation.TheVariants.{Binary}
use Rattle.sqlite_value.specs.Order.{Row}
use Rattle.sqlite_sql.specs.declared.ops.BinaryOp.TheVariants.{Compare}
use Rattle.sqlite_sql.specs.declared.ops.CompareOp.TheVariants.{Eq, Ge}
use Rattle.sqlite_sql.specs.Ops.{binary, is_true}
use Rattle.sqlite_rules.specs.Lists.{Has}
use Rattle.sqlite.specs.Effect.{Database}
use Rattle.account_rules.specs.Limits.{last_next_job, most_pages, most_unfinished, most_units, IsMoment, IsRate}
use Rattle.account_rules.specs.Names.{is_name}
use Rattle.account_rules.specs.declared.job.Job.{Job}
use Rattle.account_state.specs.RoomRules.{IsGrant}
use Rattle.account_state.specs.Sums.{pages_by}
use Rattle.account_state.specs.Tallies.{tally_of, is_in_bounds}
use Rattle.rows_tables.specs.Places.{job_column, account_places, job_places, cell}
use Rattle.rows_tables.specs.Tables.{job, document, grants, device}
use Rattle.rows_tables.specs.Keyed.{HasSchema, rows_under}
use Rattle.rows_tables.specs.Cells.{number, account_cells, job_cells, document_cells, grant_cells, on_cells, units_cells}
use Rattle.rows_tables.specs.Accounts.{account_at, job_at, grant_at, IsAccount, IsSound}
use Rattle.rows_tables.specs.Devices.{device_at, rate_at, AreSoundDevices}
use Rattle.rows_statements.specs.Shown.{IsJob}
use Rattle.rows_statements.specs.Documents.{IsDocumentOf}
use Rattle.rows_statements.specs.Queues.{AreFirst, IsNumbered}

-- the row of a key is that of a value in its range, or there is none
abbrev pub IsRowOf : {X : Type 0}
    → (cells : X → Row) (InRange : X → Type 0) (there : Option Row) → Type 0
IsRowOf {X} cells InRange there =
    (found : Option X) × IfSome found InRange × (there ≡ option_map cells found)

-- each of the rows is that of a value in its range
abbrev pub AreRowsOf : {X : Type 0}
    → (cells : X → Row) (InRange : X → Type 0) (rows : List Row) → Type 0
AreRowsOf {X} cells InRange rows =
    (row : Row) → Has rows row → (x : X) × InRange x × (row ≡ cells x)

-- the first so many of the rows in an order are those of values in their range
abbrev pub FirstAreRowsOf : {X : Type 0} → (cells : X → Row) (InRange : X → Type 0)
    (order : Row → Row → Ordering) (limit : Option ℕ) (rows : List Row) → Type 0
FirstAreRowsOf cells InRange order limit rows =
    (first : List Row) → AreFirst order limit rows first → AreRowsOf cells InRange first

-- ---- the rows of an account in a table

abbrev pub job_rows : (db : Database) (name : List ℕ) → List Row
job_rows db name = rows_under job account_places (Text name ∷ []) db

abbrev pub grant_rows : (db : Database) (name : List ℕ) → List Row
grant_rows db name = rows_under grants account_places (Text name ∷ []) db

-- those of one of its jobs
abbrev pub document_rows : (db : Database) (name : List ℕ) (of_job : ℕ) → List Row
document_rows db name of_job = rows_under document job_places (Text name ∷ number of_job ∷ []) db

-- those of its jobs that tell no moment of an end, and those that tell one
abbrev pub tells_unfinished : Row → Bool
tells_unfinished cells =
    is_true (binary (Compare Eq Binary) (cell job_column.ended cells) (Int (negsuc 0)))

abbrev pub tells_ended : Row → Bool
tells_ended cells = is_true (binary (Compare Ge Binary) (cell job_column.ended cells) (Int (pos 0)))

abbrev pub unfinished_rows : (db : Database) (name : List ℕ) → List Row
unfinished_rows db name = filter tells_unfinished (job_rows db name)

abbrev pub ended_rows : (db : Database) (name : List ℕ) → List Row
ended_rows db name = filter tells_ended (job_rows db name)

-- and of no account, the rows of the devices
abbrev pub device_rows : Database → List Row
device_rows db = map (drop 1) (db.trees device.tree)

-- ---- and what they come to

-- they are those of jobs that come to no more than an account's jobs can
pub record CanBeCounted (name : List ℕ) (rows : List Row) : Type 0 where
  pub jobs : List Job
  pub are_theirs : IsPermutation rows (map (job_cells name) jobs)
  pub in_bounds : IsTrue (is_in_bounds (tally_of jobs))

-- they are those of grants, months and their pages, that come to no more up to the month
pub record CanBeAdded (name : List ℕ) (month : ℕ) (rows : List Row) : Type 0 where
  pub granted : List (ℕ × ℕ)
  pub are_theirs : IsPermutation rows (map (λ grant. grant_cells name grant.0 grant.1) granted)
  pub in_bounds : sum_by (pages_by month) granted ≤ most_units

-- they are those of jobs that come to no more than an account's jobs can, each of which ended at a
-- moment or has not
pub record CanBeSummed (name : List ℕ) (rows : List Row) : Type 0 where
  pub jobs : List Job
  pub are_theirs : IsPermutation rows (map (job_cells name) jobs)
  pub in_bounds : IsTrue (is_in_bounds (tally_of jobs))
  pub few : length jobs ≤ last_next_job
  pub at_moments : All (λ (job : Job). IfSome job.standing.ended IsMoment) jobs

-- each account is one of a name
abbrev pub AreNamed : Database → Type 0
AreNamed db = (name : List ℕ) → IsSome (account_at db name) → IsTrue (is_name name)

-- each device is one of a name, and has a rate
pub record CanBeListed (db : Database) : Type 0 where
  pub devices : AreRowsOf (λ (it : List ℕ × Bool). on_cells it.0 it.1)
      (λ it. IsTrue (is_name it.0)) (device_rows db)
  pub rates : (name : List ℕ) → IsSome (device_at db name)
      → (units : ℕ) × IsRate units × (rate_at db name ≡ Some (units_cells name units))

-- ---- sound rows are such rows

pub record AccountsRead (db : Database) (name : List ℕ) : Type 0 where
  pub account : IsRowOf (account_cells name) IsAccount (account_at db name)
  pub jobs : (number : ℕ)
      → IsRowOf (job_cells name) (λ it. (it.job ≡ number) × IsJob it) (job_at db name (pos number))
  pub grants : (month : ℕ) → IsRowOf (grant_cells name month) (λ pages. pages ≤ most_pages)
      (grant_at db name (pos month))
  pub documents : (number : ℕ)
      → AreRowsOf (document_cells name) (IsDocumentOf number) (document_rows db name number)
  pub queues : AreRowsOf (job_cells name) IsNumbered (job_rows db name)
  pub counted : CanBeCounted name (job_rows db name)
  pub queued : CanBeCounted name (unfinished_rows db name)
  pub few : length (unfinished_rows db name) ≤ most_unfinished
  pub added : (month : ℕ) → CanBeAdded name month (grant_rows db name)
  pub by_month : AreRowsOf (λ (grant : ℕ × ℕ). grant_cells name grant.0 grant.1)
      (λ grant. IsGrant grant.0 grant.1) (grant_rows db name)
  pub summed : CanBeSummed name (job_rows db name)

pub record DevicesRead (db : Database) : Type 0 where
  pub devices : (name : List ℕ) → IsRowOf (on_cells name) (λ _. ⊤) (device_at db name)
  pub rates : (name : List ℕ)
      → IsRowOf (units_cells name) IsRate (rate_at db name)
  pub all : AreRowsOf (λ (it : List ℕ × Bool). on_cells it.0 it.1) (λ _. ⊤) (device_rows db)
  pub listed : CanBeListed db

pub record SoundRowsAreRead : Type 0 where
  pub accounts : (db : Database) (name : List ℕ) → HasSchema db → IsSound db name
      → AccountsRead db name
  pub of_devices : (db : Database) → HasSchema db → AreSoundDevices db → DevicesRead db
