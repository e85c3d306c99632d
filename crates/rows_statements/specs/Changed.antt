-- What each kind of change makes of an account or of the devices; no other rows change (all this
-- project's own).
use Rattle.std.specs.Prelude.{◌≡◌, ℕ, ◌+◌, ℤ, pos, Bool, true, not, List, Option, Some}
use Rattle.std.specs.FinMap.{contains_key}
use Rattle.sqlite.specs.Effect.{Database}
use Rattle.account_rules.specs.Devices.{Devices, switched, rated}
use Rattle.account_rules.specs.declared.account.Account.{Account}
use Rattle.account_rules.specs.declared.job.Document.{Document}
use Rattle.account_rules.specs.declared.job.Job.{Job}
use Rattle.account_rules.specs.declared.job.Standing.{Standing}
use Rattle.account_state.specs.Changes.{with_ended, with_grant, with_new_job, with_standing}
use Rattle.account_state.specs.Conditions.{CanAddGrant, CanAddJob, CanFinish, CanRestand}
use Rattle.account_state.specs.Rooms.{RoomValue, empty_room}
use Rattle.rows_statements.specs.Alone.{OnlyAccount, OnlyDevices}
use Rattle.rows_statements.specs.JobSums.{MovesCount, MovesSum, charges, counts, reserves}
use Rattle.rows_tables.specs.Accounts.{account_at, job_at, HoldsNothing, HoldsRoom}
use Rattle.rows_tables.specs.Cells.{account_cells, job_cells}
use Rattle.rows_tables.specs.Devices.{HoldsDevices}

-- ---- an account, which is opened, or granted pages

pub record OpensAccount (name : List ℕ) (now : ℕ) (before after : Database) : Type 0 where
  pub room : HoldsNothing before name → HoldsRoom after name (empty_room now)
  pub alone : OnlyAccount name before after

pub record GrantsPages (name : List ℕ) (month pages : ℕ) (before after : Database) : Type 0 where
  pub room : (room : RoomValue) → HoldsRoom before name room
      → CanAddGrant room month pages → HoldsRoom after name (with_grant room month pages)
  pub account : account_at after name ≡ account_at before name
  pub jobs : (number : ℤ) → job_at after name number ≡ job_at before name number
  pub alone : OnlyAccount name before after

-- ---- a job, which is made, with its first document or with none

pub record MakesJob (name : List ℕ) (job : Job) (first : Option Document) (before after : Database)
    : Type 0 where
  pub room : (room : RoomValue) → HoldsRoom before name room
      → CanAddJob room job first → HoldsRoom after name (with_new_job room job first)
  pub account : (row : Account) → account_at before name ≡ Some (account_cells name row)
      → account_at after name ≡ Some (account_cells name (record row { next_job = job.job + 1 }))
  pub alone : (row : Account) → account_at before name ≡ Some (account_cells name row)
      → OnlyAccount name before after
  pub reserved : (row : Account) → account_at before name ≡ Some (account_cells name row)
      → MovesSum reserves name 0 job.standing.reserved before after
  pub charged : (row : Account) → account_at before name ≡ Some (account_cells name row)
      → MovesSum charges name 0 job.standing.charged before after
  pub counted : (row : Account) → account_at before name ≡ Some (account_cells name row)
      → MovesCount name 0 (counts job.standing) before after

-- which takes another standing, and its next document or none
pub record RestandsJob (name : List ℕ) (number : ℕ) (standing : Standing) (next : Option Document)
    (before after : Database) : Type 0 where
  pub room : (room : RoomValue) → HoldsRoom before name room
      → CanRestand room number standing next
      → HoldsRoom after name (with_standing room number standing next)
  pub account : (job : Job) → job_at before name (pos number) ≡ Some (job_cells name job)
      → account_at after name ≡ account_at before name
  pub alone : (job : Job) → job_at before name (pos number) ≡ Some (job_cells name job)
      → OnlyAccount name before after
  pub reserved : (job : Job) → job.job ≡ number
      → job_at before name (pos number) ≡ Some (job_cells name job)
      → MovesSum reserves name job.standing.reserved standing.reserved before after
  pub charged : (job : Job) → job.job ≡ number
      → job_at before name (pos number) ≡ Some (job_cells name job)
      → MovesSum charges name job.standing.charged standing.charged before after
  pub counted : (job : Job) → job.job ≡ number
      → job_at before name (pos number) ≡ Some (job_cells name job)
      → MovesCount name (counts job.standing) (counts standing) before after

-- or which ends
pub record FinishesJob (name : List ℕ) (number : ℕ) (standing : Standing) (before after : Database)
    : Type 0 where
  pub room : (room : RoomValue) → HoldsRoom before name room
      → CanFinish room number standing → HoldsRoom after name (with_ended room number standing)
  pub account : (job : Job) → job_at before name (pos number) ≡ Some (job_cells name job)
      → account_at after name ≡ account_at before name
  pub alone : (job : Job) → job_at before name (pos number) ≡ Some (job_cells name job)
      → OnlyAccount name before after
  pub reserved : (job : Job) → job.job ≡ number
      → job_at before name (pos number) ≡ Some (job_cells name job)
      → MovesSum reserves name job.standing.reserved standing.reserved before after
  pub charged : (job : Job) → job.job ≡ number
      → job_at before name (pos number) ≡ Some (job_cells name job)
      → MovesSum charges name job.standing.charged standing.charged before after
  pub counted : (job : Job) → job.job ≡ number
      → job_at before name (pos number) ≡ Some (job_cells name job)
      → MovesCount name (counts job.standing) (counts standing) before after

-- ---- a device, which is switched on or off, and is new or not, or which gets another rate

pub record SwitchesDevice (name : List ℕ) (on is_new : Bool) (before after : Database) : Type 0 where
  pub devices : (devices : Devices) → HoldsDevices before devices
      → is_new ≡ not (contains_key devices name) → HoldsDevices after (switched devices name on)
  pub alone : OnlyDevices before after

pub record RatesDevice (name : List ℕ) (units : ℕ) (before after : Database) : Type 0 where
  pub devices : (devices : Devices) → HoldsDevices before devices
      → contains_key devices name ≡ true → HoldsDevices after (rated devices name units)
  pub alone : OnlyDevices before after
