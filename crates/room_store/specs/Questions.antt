-- Which rows a question is about, what of them is read to answer it, and that it changes nothing
-- (all this project's own).
use Rattle.std.specs.Prelude.{◌≡◌, ◌⊎◌, ℕ, ⊤, true, false, List, Option, Some, None, Result, Err, IfOk, IsSome, IsTrue, OnOk}
use Rattle.sqlite.specs.Effect.{Database}
use Rattle.sqlite.specs.Held.{Held, state}
use Rattle.sqlite.specs.State.{HasCleanDisk}
use Rattle.sqlite_trees.specs.declared.store.Store.{Ghosts}
use Rattle.account_asks.specs.declared.ask.Which.TheVariants.{NotCompleted, Completed}
use Rattle.account_machine.specs.declared.event.Reply.{Reply}
use Rattle.account_machine.specs.declared.event.Reply.TheVariants as reply
use Rattle.account_state.specs.Names.{AreNames}
use Rattle.account_questions.specs.Pages.{most_shown}
use Rattle.account_questions.specs.Questions.{answer_about, answer_to, check_text, Concerns, ConcernsDevices, ConcernsNames, NeedsDevices}
use Rattle.account_questions.specs.Stations.{printed_by}
use Rattle.account_questions.specs.declared.question.About.{About}
use Rattle.account_questions.specs.declared.question.About.TheVariants.{Left, Statement, Jobs, Ended, Grants, Waiting, Again, OwnerPage, StatementPage, DeskPage}
use Rattle.account_questions.specs.declared.question.Question.{Question}
use Rattle.account_questions.specs.declared.question.Question.TheVariants.{Ping, End, Devices, DevicesPage, Accounts, Check, Account}
use Rattle.account_replies.specs.Words.{word_text}
use Rattle.account_rules.specs.Devices.{Devices as DeviceMap}
use Rattle.account_rules.specs.declared.refusal.Word.TheVariants.{NoAccount}
use Rattle.account_state.specs.RoomRules.{IsGrant}
use Rattle.account_state.specs.Rooms.{RoomValue}
use Rattle.rows_statements.specs.SoundRows.{AreNamed, AreRowsOf, CanBeAdded, CanBeCounted, CanBeListed, CanBeSummed, grant_rows, job_rows}
use Rattle.store_events.specs.Reading.{AccountIsReadable, ActIsReadable, DeviceIsReadable, DocumentsAreReadable, JobsAreReadable}
use Rattle.store_rounds.specs.declared.fault.StoreFault.{StoreFault}
use Rattle.store_rounds.specs.declared.fault.StoreFault.TheVariants.{Damaged}
use Rattle.rows_tables.specs.Accounts.{AgreeOnRows, Holds, HoldsNothing, HoldsRoom, IsSound, account_at}
use Rattle.rows_tables.specs.Calls.{IfOurTables, IsUnchanged, KeepsConnection, LeavesNoMore}
use Rattle.rows_tables.specs.Cells.{grant_cells}
use Rattle.rows_tables.specs.Devices.{AgreeOnDevices, AreSoundDevices, HoldsDevices, device_at}
use Rattle.rows_tables.specs.Keyed.{HasSchema}
use Rattle.rows_tables.specs.declared.fault.TableFault.{TableFault}

-- the names of all accounts that have a row
abbrev pub OpenNames : (db : Database) (names : List (List ℕ)) → Type 0
OpenNames db names = AreNames (λ name. IsSome (account_at db name)) names

-- the rows that it is about are those of this room, of these devices, and of these accounts
pub record IsAbout (question : Question) (room : Option RoomValue) (devices : DeviceMap)
    (names : List (List ℕ)) (db : Database) : Type 0 where
  pub account : (name : List ℕ) → Concerns question name → Holds db name room
  pub device_rows : ConcernsDevices question → HoldsDevices db devices
  pub account_rows : ConcernsNames question → OpenNames db names

-- ---- what is read

-- all jobs of an account, and the grants up to a month
pub record SumsAreReadable (name : List ℕ) (month : ℕ) (db : Database) : Type 0 where
  pub jobs : CanBeCounted name (job_rows db name)
  pub grants : CanBeAdded name month (grant_rows db name)

-- and of the jobs when they ended
pub record StatementIsReadable (name : List ℕ) (month : ℕ) (db : Database) : Type 0 where
  pub jobs : CanBeSummed name (job_rows db name)
  pub grants : CanBeAdded name month (grant_rows db name)

-- all grants
abbrev pub GrantsAreReadable : (name : List ℕ) (db : Database) → Type 0
GrantsAreReadable name db = AreRowsOf (λ (grant : ℕ × ℕ). grant_cells name grant.0 grant.1)
    (λ grant. IsGrant grant.0 grant.1) (grant_rows db name)

-- for a device that is not known nothing of the account is read
abbrev pub WaitingIsReadable : (name device : List ℕ) (db : Database) → Type 0
WaitingIsReadable name device db = DeviceIsReadable device db
    × (IsSome (device_at db device) → JobsAreReadable name NotCompleted None db)

-- of a job that the device does not print no document is
abbrev pub PrintedIsReadable : (name device : List ℕ) (number : ℕ) (db : Database) → Type 0
PrintedIsReadable name device number db = ActIsReadable name number
    (λ it. OnOk (printed_by device (Some it)) (DocumentsAreReadable name number db)) db

abbrev pub AgainIsReadable : (name device : List ℕ) (number : ℕ) (db : Database) → Type 0
AgainIsReadable name device number db = DeviceIsReadable device db
    × (IsSome (device_at db device) → PrintedIsReadable name device number db)

-- the quota, the jobs that have not ended, the last that have, and all devices
pub record OwnerPageIsReadable (name : List ℕ) (month : ℕ) (db : Database) : Type 0 where
  pub quota : SumsAreReadable name month db
  pub waiting : JobsAreReadable name NotCompleted None db
  pub ended : JobsAreReadable name Completed (Some most_shown) db
  pub devices : CanBeListed db

-- the quota, all grants, and all jobs that have ended
pub record StatementPageIsReadable (name : List ℕ) (month : ℕ) (db : Database) : Type 0 where
  pub quota : SumsAreReadable name month db
  pub grants : GrantsAreReadable name db
  pub ended : JobsAreReadable name Completed None db

-- the quota, the jobs that have not ended, the last that have, and all grants
pub record DeskPageIsReadable (name : List ℕ) (month : ℕ) (db : Database) : Type 0 where
  pub quota : SumsAreReadable name month db
  pub waiting : JobsAreReadable name NotCompleted None db
  pub ended : JobsAreReadable name Completed (Some most_shown) db
  pub grants : GrantsAreReadable name db

-- of an account that is open
abbrev pub AboutIsReadable : (name : List ℕ) (db : Database) → About → Type 0
AboutIsReadable name db (Left month) = SumsAreReadable name month db
AboutIsReadable name db (Statement month) = StatementIsReadable name month db
AboutIsReadable name db Jobs = JobsAreReadable name NotCompleted None db
AboutIsReadable name db (Ended most) = JobsAreReadable name Completed (Some most) db
AboutIsReadable name db Grants = GrantsAreReadable name db
AboutIsReadable name db (Waiting device) = WaitingIsReadable name device db
AboutIsReadable name db (Again device number) = AgainIsReadable name device number db
AboutIsReadable name db (OwnerPage month outcome stays needs_password) =
    OwnerPageIsReadable name month db
AboutIsReadable name db (StatementPage first last form drawn_up) =
    StatementPageIsReadable name last db
AboutIsReadable name db (DeskPage month) = DeskPageIsReadable name month db

-- of an account that is not open its own row alone is read
pub record AccountIsAnswerable (name : List ℕ) (about : About) (db : Database) : Type 0 where
  pub account : AccountIsReadable name db
  pub where_open : IsSome (account_at db name) → AboutIsReadable name db about

abbrev pub QuestionIsReadable : Question → Database → Type 0
QuestionIsReadable Ping db = ⊤
QuestionIsReadable End db = ⊤
QuestionIsReadable Devices db = CanBeListed db
QuestionIsReadable DevicesPage db = CanBeListed db
QuestionIsReadable (Accounts behind) db = AreNamed db
QuestionIsReadable (Check name) db = ⊤
QuestionIsReadable (Account name about) db = AccountIsAnswerable name about db

-- the rows that it is about are sound
pub record IsSoundFor (question : Question) (db : Database) : Type 0 where
  pub account : (name : List ℕ) → Concerns question name → IsSound db name
  pub devices : ConcernsDevices question → AreSoundDevices db
  pub named : ConcernsNames question → AreNamed db

-- so each question can be answered of sound rows
abbrev pub SoundRowsAreAnswered : Type 0
SoundRowsAreAnswered = (question : Question) (db : Database) → HasSchema db
    → IsSoundFor question db → QuestionIsReadable question db

-- ---- what is answered

-- the rows of an account are those of a room, or there are none, or they are not sound
abbrev pub TellsWhetherSound : (name : List ℕ) (db : Database) (told : Reply) → Type 0
TellsWhetherSound name db told =
    ((told ≡ reply.Line (check_text true)) × (room : RoomValue) × HoldsRoom db name room)
    ⊎ ((told ≡ reply.Line (word_text NoAccount)) × HoldsNothing db name)
    ⊎ ((told ≡ reply.Line (check_text false)) × (IsSound db name → ⊥))

-- of a question about rows that need not be sound
abbrev pub TellsOfAnyRows : Question → (db : Database) (told : Reply) → Type 0
TellsOfAnyRows (Check name) db told = TellsWhetherSound name db told
TellsOfAnyRows _ db told = ⊤

-- It is answered by the rows that it is about, of a connection that was open. Whether it is
-- answered or not the tables are as they were, and a crash finds nothing that it could not have
-- found before.
pub record AnswersQuestion {S : Type 0} (store : Ghosts S) (asked : Question) (old new : Held S)
    (result : Result Reply StoreFault) : Type 0 where
  pub told : IfOurTables store old new (λ db. IfOk result (λ told.
      (room : Option RoomValue) (devices : DeviceMap) (names : List (List ℕ))
      → IsAbout asked room devices names db → told ≡ answer_to asked room devices names))
  pub checked : IfOurTables store old new (λ db. IfOk result (TellsOfAnyRows asked db))
  pub opened : HasCleanDisk (state store new) → OnOk result (IsTrue (state store old).is_open)
  pub damaged : IfOurTables store old new
      (λ db. result ≡ Err Damaged → QuestionIsReadable asked db → ⊥)
  pub same : IfOurTables store old new (λ db. IsTrue (state store new).is_open
      → IsUnchanged (state store old) (state store new))
  pub crash : IfOurTables store old new (λ db. LeavesNoMore (state store old) (state store new))
  pub connection : KeepsConnection (state store old) (state store new)

-- of an account that is open, of rows that are held
abbrev pub TellsAbout : {S : Type 0} → (store : Ghosts S) (old new : Held S) (name : List ℕ)
    (about : About) (result : Result Reply TableFault) → Type 0
TellsAbout store old new name about result = IfOurTables store old new (λ db. IfOk result (λ told.
    (room : RoomValue) (devices : DeviceMap) → HoldsRoom db name room
    → (NeedsDevices about → HoldsDevices db devices) → told ≡ answer_about name about room devices))

-- ---- two databases

-- they agree on the rows that it is about
pub record AgreeFor (question : Question) (a b : Database) : Type 0 where
  pub account : (name : List ℕ) → Concerns question name → AgreeOnRows name a b
  pub devices : ConcernsDevices question → AgreeOnDevices a b
  pub names : ConcernsNames question → (name : List ℕ)
      → account_at b name ≡ account_at a name

-- so the same is answered over either
abbrev pub AgreeingAreAnsweredAlike : Type 0
AgreeingAreAnsweredAlike = (question : Question) (a b : Database) → AgreeFor question a b
    → (room : Option RoomValue) (devices : DeviceMap) (names : List (List ℕ))
    → IsAbout question room devices names a → IsAbout question room devices names b
