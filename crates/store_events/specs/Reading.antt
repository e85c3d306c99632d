-- What each event reads, row by row: what comes behind a check that fails is not read. An event
-- tells damage only where something of that can be of no sound rows (all this project's own).
use Rattle.std.specs.Prelude.{◌≡◌, ◌≢◌, ℕ, ◌≤◌, ℤ, pos, Bool, true, ⊤, List, length, Option, Some, None, IfOk, OnOk, IsSome, IsTrue}
use Rattle.sqlite.specs.Effect.{Database}
use Rattle.account_asks.specs.Asks.{PlainAsk, ask_of}
use Rattle.account_asks.specs.declared.ask.Which.{Which}
use Rattle.account_asks.specs.declared.ask.Which.TheVariants.{NotCompleted, Completed}
use Rattle.account_asks.specs.declared.operation.Operation.{Operation}
use Rattle.account_asks.specs.declared.operation.Operation.TheVariants.{PrintJob, ValidateJob, CreateJob, SendDocument, CancelJob, GetJobAttributes, GetJobs, GetPrinterAttributes, HoldJob, ReleaseJob}
use Rattle.account_machine.specs.Events.{PlainEvent, OfAccount, OfDevice, Open, Ipp, Release, Start, Settle, Grant}
use Rattle.account_machine.specs.JobRequests.{has_data, has_password, sent_document}
use Rattle.account_machine.specs.NewJobs.{new_document}
use Rattle.account_replies.specs.Queues.{is_accepting}
use Rattle.account_rules.specs.Acts.{Act, ReleaseJob as ByOwner, SendDocument as Sending, StationRelease, StationSettle, StationStart}
use Rattle.account_rules.specs.declared.account.Account.{Account}
use Rattle.account_rules.specs.declared.job.Job.{Job}
use Rattle.account_rules.specs.declared.job.Standing.{Standing}
use Rattle.account_rules.specs.Limits.{IsRate, may_be_job, most_pages, most_unfinished}
use Rattle.account_rules.specs.Months.{month_at}
use Rattle.account_rules.specs.Moves.{move}
use Rattle.rows_statements.specs.Documents.{IsDocumentOf}
use Rattle.rows_statements.specs.Queues.{by_falling_end, by_rising_number, IsNumbered}
use Rattle.rows_statements.specs.Rows.{IsFree}
use Rattle.rows_statements.specs.Shown.{IsJob}
use Rattle.rows_statements.specs.SoundRows.{IsRowOf, AreRowsOf, CanBeAdded, CanBeCounted, FirstAreRowsOf, device_rows, document_rows, ended_rows, grant_rows, job_rows, unfinished_rows}
use Rattle.store_events.specs.Events.{IsShort}
use Rattle.rows_tables.specs.Accounts.{account_at, grant_at, job_at, IsAccount, IsSound}
use Rattle.rows_tables.specs.Cells.{account_cells, document_cells, grant_cells, job_cells, on_cells, units_cells}
use Rattle.rows_tables.specs.Devices.{device_at, rate_at, AreSoundDevices}
use Rattle.rows_tables.specs.Keyed.{HasSchema}
use Rattle.store_rounds.specs.Reading.{JobIsReadable}

-- ---- rows of an account

-- its own row
abbrev pub AccountIsReadable : (name : List ℕ) (db : Database) → Type 0
AccountIsReadable name db = IsRowOf (account_cells name) IsAccount (account_at db name)

-- and once it was found, what an act on it reads
pub record ActIsReadable (name : List ℕ) (number : ℕ) (Reads : Job → Type 0) (db : Database)
    : Type 0 where
  pub job : JobIsReadable name number db
  pub act : IsTrue (may_be_job number) → (it : Job) → IsJob it
      → job_at db name (pos number) ≡ Some (job_cells name it) → Reads it

-- the documents of a job
abbrev pub DocumentsAreReadable : (name : List ℕ) (number : ℕ) (db : Database) → Type 0
DocumentsAreReadable name number db =
    AreRowsOf (document_cells name) (IsDocumentOf number) (document_rows db name number)

-- the jobs that have not ended, or those that have, in the order of the answer, as many as it tells
abbrev pub JobsAreReadable : (name : List ℕ) (which : Which) (limit : Option ℕ) (db : Database)
    → Type 0
JobsAreReadable name NotCompleted limit db =
    FirstAreRowsOf (job_cells name) IsNumbered by_rising_number limit (unfinished_rows db name)
JobsAreReadable name Completed limit db =
    FirstAreRowsOf (job_cells name) IsNumbered by_falling_end limit (ended_rows db name)

-- how many have not ended
abbrev pub QueueIsShort : (name : List ℕ) (db : Database) → Type 0
QueueIsShort name db = length (unfinished_rows db name) ≤ most_unfinished

-- and whether one is processing
abbrev pub QueueIsReadable : (name : List ℕ) (db : Database) → Type 0
QueueIsReadable name db = CanBeCounted name (unfinished_rows db name)

-- the grant of a month
abbrev pub GrantIsReadable : (name : List ℕ) (month : ℕ) (db : Database) → Type 0
GrantIsReadable name month db =
    IsRowOf (grant_cells name month) (λ pages. pages ≤ most_pages) (grant_at db name (pos month))

-- what is left now: all jobs, and the grants up to this month
pub record QuotaIsReadable (name : List ℕ) (now : ℕ) (db : Database) : Type 0 where
  pub jobs : CanBeCounted name (job_rows db name)
  pub grants : CanBeAdded name (month_at now) (grant_rows db name)

-- ---- rows of devices

abbrev pub DeviceIsReadable : (name : List ℕ) (db : Database) → Type 0
DeviceIsReadable name db = IsRowOf (on_cells name) (λ (on : Bool). ⊤) (device_at db name)

-- of one that takes jobs also its rate, which each device has
pub record StationIsReadable (name : List ℕ) (db : Database) : Type 0 where
  pub device : DeviceIsReadable name db
  pub rate : device_at db name ≡ Some (on_cells name true)
      → (rate : ℕ) × IsRate rate × (rate_at db name ≡ Some (units_cells name rate))

-- it takes jobs, at that rate
pub record IsReady (name : List ℕ) (rate : ℕ) (db : Database) : Type 0 where
  pub on : device_at db name ≡ Some (on_cells name true)
  pub rated : rate_at db name ≡ Some (units_cells name rate)
  pub in_range : IsRate rate

abbrev pub DevicesAreReadable : Database → Type 0
DevicesAreReadable db =
    AreRowsOf (λ (it : List ℕ × Bool). on_cells it.0 it.1) (λ _. ⊤) (device_rows db)

-- ---- places that a change takes

-- of a new job, and of the document that it brings, where the queue takes one
abbrev pub NextPlaceIsFree : (name : List ℕ) (ask : PlainAsk) (db : Database) → Type 0
NextPlaceIsFree name ask db = (it : Account) → account_at db name ≡ Some (account_cells name it)
    → IsTrue (is_accepting (length (unfinished_rows db name)) it.next_job)
    → (job_at db name (pos it.next_job) ≡ None) × IsFree name (new_document it.next_job ask) db

-- ---- acts on a job

-- Send-Document: the place of the job's next document, where the job takes one
abbrev pub SendingIsReadable : (name : List ℕ) (ask : PlainAsk) (db : Database) → Type 0
SendingIsReadable name ask db = ActIsReadable name ask.job (λ it.
    OnOk (move (Sending ask.last (has_data ask)) it.standing)
    (IsFree name (sent_document ask it) db)) db

-- what comes of a release goes by what is left: it is refused for nothing else, and the job was not
-- released before
abbrev pub GoesByQuota : (release : ℤ → Act) (s : Standing) → Type 0
GoesByQuota release s =
    (enough : ℤ) × (less : ℤ) × (move (release enough) s ≢ move (release less) s)

-- Release-Job
abbrev pub ReleaseIsReadable : (name : List ℕ) (now number : ℕ) (db : Database) → Type 0
ReleaseIsReadable name now number db = ActIsReadable name number (λ it.
    GoesByQuota (ByOwner (has_password it)) it.standing → QuotaIsReadable name now db) db

-- of a device that takes no jobs a station's release and its start read nothing more
module _ (name device : List ℕ) (now number : ℕ) where
  abbrev pub StationReleaseIsReadable : (given : List ℕ) (impressions : ℕ) (db : Database) → Type 0
  StationReleaseIsReadable given impressions db =
      StationIsReadable device db × ((rate : ℕ) → IsReady device rate db →
      ActIsReadable name number (λ it.
      GoesByQuota (StationRelease it.password device given impressions rate) it.standing
      → QuotaIsReadable name now db) db)

  abbrev pub StartIsReadable : (db : Database) → Type 0
  StartIsReadable db =
      StationIsReadable device db × ((rate : ℕ) → IsReady device rate db →
      ActIsReadable name number (λ it.
      OnOk (move (StationStart device rate now) it.standing)
      (DocumentsAreReadable name number db)) db)

  -- and of one that is not known its settlement
  abbrev pub SettlementIsReadable : (impressions : ℕ) (failed : Bool) (db : Database) → Type 0
  SettlementIsReadable impressions failed db =
      DeviceIsReadable device db × (IsSome (device_at db device) →
      ActIsReadable name number (λ it.
      OnOk (move (StationSettle device impressions failed now) it.standing)
      (QuotaIsReadable name now db)) db)

-- ---- events

-- a request, by its operation
abbrev pub IsReadableFor : (name : List ℕ) (now : ℕ) (ask : PlainAsk) (db : Database) → Operation
    → Type 0
IsReadableFor name now ask db PrintJob = QueueIsShort name db × NextPlaceIsFree name ask db
IsReadableFor name now ask db ValidateJob = QueueIsShort name db
IsReadableFor name now ask db CreateJob = QueueIsShort name db × NextPlaceIsFree name ask db
IsReadableFor name now ask db SendDocument = SendingIsReadable name ask db
IsReadableFor name now ask db CancelJob = JobIsReadable name ask.job db
IsReadableFor name now ask db GetJobAttributes = JobIsReadable name ask.job db
IsReadableFor name now ask db GetJobs = JobsAreReadable name ask.which ask.limit db
IsReadableFor name now ask db GetPrinterAttributes =
    QueueIsReadable name db × DevicesAreReadable db
IsReadableFor name now ask db HoldJob = JobIsReadable name ask.job db
IsReadableFor name now ask db ReleaseJob = ReleaseIsReadable name now ask.job db

-- one that passes its checks; one that fails a check reads no more
abbrev pub RequestIsReadable : (name : List ℕ) (now : ℕ) (body : List ℕ) (db : Database) → Type 0
RequestIsReadable name now body db =
    IfOk (ask_of name body) (λ ask. IsReadableFor name now ask db ask.operation)

-- an event of the account of this name, which is open
abbrev pub IsReadableOpen : (name : List ℕ) (now : ℕ) (e : PlainEvent) (db : Database) → Type 0
IsReadableOpen name now (OfAccount account Open) db = ⊤
IsReadableOpen name now (OfAccount account (Ipp body)) db = RequestIsReadable name now body db
IsReadableOpen name now (OfAccount account (Release device job password impressions)) db =
    StationReleaseIsReadable name device now job password impressions db
IsReadableOpen name now (OfAccount account (Start device job)) db =
    StartIsReadable name device now job db
IsReadableOpen name now (OfAccount account (Settle device job impressions failed)) db =
    SettlementIsReadable name device now job impressions failed db
IsReadableOpen name now (OfAccount account (Grant month pages)) db = GrantIsReadable name month db
IsReadableOpen name now (OfDevice device it) db = ⊤

-- the account's own row comes first
pub record IsReadableOf (name : List ℕ) (now : ℕ) (e : PlainEvent) (db : Database) : Type 0 where
  pub account : AccountIsReadable name db
  pub where_open : IsSome (account_at db name) → IsReadableOpen name now e db

-- any event; of a message that ends within its header nothing is read
abbrev pub IsReadable : (now : ℕ) (e : PlainEvent) (db : Database) → Type 0
IsReadable now (OfAccount name it) db =
    (IsShort (OfAccount name it) → ⊥) → IsReadableOf name now (OfAccount name it) db
IsReadable now (OfDevice device it) db = DeviceIsReadable device db

-- ---- sound rows are readable

-- those of the event's account and of all devices
abbrev pub AreSoundFor : (e : PlainEvent) (db : Database) → Type 0
AreSoundFor (OfAccount name it) db = IsSound db name × AreSoundDevices db
AreSoundFor (OfDevice device it) db = AreSoundDevices db

abbrev pub SoundRowsAreReadable : Type 0
SoundRowsAreReadable = (now : ℕ) (e : PlainEvent) (db : Database) → HasSchema db
    → AreSoundFor e db → IsReadable now e db
