-- When the rows of an account are in order, key by key, as the check reads them: then they are
-- those of one room (all this project's own).
use Rattle.std.specs.Prelude.{◌≡◌, ◌≢◌, ℕ, ◌<◌, ◌≤◌, ◌^◌, ◌&&◌, nat_le, ℤ, pos, negsuc, Bool, true, false, List, [], ◌∷◌, ◌++◌, length, Option, Some, None, option_map, IfSome, IsSome, IsTrue}
use Rattle.sqlite_value.specs.declared.value.Value.TheVariants.{Int, Text, Blob}
use Rattle.sqlite_value.specs.Order.{Row, column}
use Rattle.sqlite.specs.Effect.{Database}
use Rattle.account_rules.specs.Formats.{media_type}
use Rattle.account_rules.specs.Limits.{most_unfinished}
use Rattle.account_rules.specs.Names.{IsNameOrNone}
use Rattle.account_rules.specs.declared.account.Account.{Account}
use Rattle.account_rules.specs.declared.job.Document.{Document}
use Rattle.account_rules.specs.declared.job.Job.{Job}
use Rattle.account_state.specs.Rooms.{RoomValue}
use Rattle.account_state.specs.RoomRules.{has_document, IsDocumentAt, IsGrant, IsJobAt}
use Rattle.rows_tables.specs.Accounts.{account_at, document_at, grant_at, job_at, HoldsNothing, HoldsRoom, IsAccount}
use Rattle.rows_tables.specs.Cells.{account_cells, document_cells, grant_cells, job_cells}
use Rattle.rows_tables.specs.Keyed.{rows_under, HasSchema}
use Rattle.rows_tables.specs.Places.{document_column, account_places, cell}
use Rattle.rows_tables.specs.Tables.{document as document_table}
use Rattle.rows_statements.specs.SoundRows.{unfinished_rows, IsRowOf}

-- the row of a key is there, and is that of a value in its range
abbrev pub IsRowThere : {X : Type 0}
    → (cells : X → Row) (InRange : X → Type 0) (there : Option Row) → Type 0
IsRowThere {X} cells InRange there = (x : X) × InRange x × (there ≡ Some (cells x))

-- a document of a job is there
abbrev pub IsDocumentThere : (db : Database) (name : List ℕ) (job number : ℕ) → Type 0
IsDocumentThere db name job number = IsRowThere (document_cells name) (IsDocumentAt (job, number))
    (document_at db name (pos job) (pos number))

-- a job of the account, whose next job has that number, or none; and if it has not ended, each of
-- its documents is there
pub record JobIsInOrder (db : Database) (name : List ℕ) (next number : ℕ) : Type 0 where
  pub found : Option Job
  pub read : job_at db name (pos number) ≡ option_map (job_cells name) found
  pub in_range : IfSome found (IsJobAt next number)
  pub documents : (document : ℕ) → IsTrue (has_document found document)
      → IsDocumentThere db name number document

-- a job of the account, or none, whose documents are numbered from 1 to that number
pub record JobHasDocuments (db : Database) (name : List ℕ) (next number documents : ℕ) : Type 0
  where
    pub found : Option Job
    pub read : job_at db name (pos number) ≡ option_map (job_cells name) found
    pub in_range : IfSome found (IsJobAt next number)
    pub has : (document : ℕ) → has_document found document
        ≡ (nat_le 1 document && nat_le document documents)

-- its documents 1 to n are there
abbrev pub AreDocumentsThere : (db : Database) (name : List ℕ) (job n : ℕ) → Type 0
AreDocumentsThere db name job n =
    (number : ℕ) → 1 ≤ number → number ≤ n → IsDocumentThere db name job number

-- a document, if it is there, is one that its job has
abbrev pub DocumentIsInOrder : (db : Database) (name : List ℕ) (job number : ℕ) → Type 0
DocumentIsInOrder db name job number = IsSome (document_at db name (pos job) (pos number))
    → IsRowThere (job_cells name)
    (λ it. IsNameOrNone it.standing.device × IsTrue (has_document (Some it) number))
    (job_at db name (pos job))

-- whether a job is there that has the document
pub record HasDocument (db : Database) (name : List ℕ) (job number : ℕ) (is_there : Bool) : Type 0
  where
    pub there : is_there ≡ true → IsRowThere (job_cells name)
        (λ it. IsNameOrNone it.standing.device × IsTrue (has_document (Some it) number))
        (job_at db name (pos job))
    pub is_not : is_there ≡ false → (it : Job) → IsNameOrNone it.standing.device
        → job_at db name (pos job) ≡ Some (job_cells name it)
        → has_document (Some it) number ≡ false

-- a row tells the format and the bytes of a document
pub record ShowsContent (row : Row) (document : Document) : Type 0 where
  pub format : column row 0 ≡ Text (media_type document.format)
  pub bytes : column row 1 ≡ Blob document.bytes

-- a grant of a month, or none
abbrev pub GrantIsInOrder : (db : Database) (name : List ℕ) (month : ℕ) → Type 0
GrantIsInOrder db name month =
    IsRowOf (grant_cells name month) (IsGrant month) (grant_at db name (pos month))

-- ---- the keys of an account's rows, one after another

-- the row tells a number, which is put at the end
pub record ListsNumber (first : List ℕ) (row : Row) (last : List ℕ) : Type 0 where
  pub number : ℕ
  pub told : column row 0 ≡ Int (pos number)
  pub added : last ≡ first ++ number ∷ []

-- it tells none that a job or a month can have
abbrev pub refuses_number : Row → Type 0
refuses_number row = (number : ℕ) → number < 2 ^ 32 → column row 0 ≢ Int (pos number)

-- the row tells the numbers of a job and of a document of it, which are put at the end
pub record ListsPlace (first : List (ℕ × ℕ)) (row : Row) (last : List (ℕ × ℕ)) : Type 0 where
  pub place : ℕ × ℕ
  pub of_job : column row 0 ≡ Int (pos place.0)
  pub told : column row 1 ≡ Int (pos place.1)
  pub added : last ≡ first ++ place ∷ []

abbrev pub refuses_place : Row → Type 0
refuses_place row = (job number : ℕ) → job < 2 ^ 32 → number < 2 ^ 32
    → column row 0 ≡ Int (pos job) → column row 1 ≢ Int (pos number)

-- the rows of an account's documents, whichever their job
abbrev pub all_documents : (db : Database) (name : List ℕ) → List Row
all_documents db name = rows_under document_table account_places (Text name ∷ []) db

-- of a row of the table its key behind the account
abbrev pub place_cells : Row → Row
place_cells cells = cell document_column.job cells ∷ cell document_column.number cells ∷ []

-- ---- all rows of the account: those in order are under the numbers that they can be under

-- its jobs, whose next has that number
pub record JobsAreInOrder (db : Database) (name : List ℕ) (next : ℕ) : Type 0 where
  pub each : (number : ℕ) → JobIsInOrder db name next number
  pub numbered : (number : ℕ) → job_at db name (negsuc number) ≡ None

pub record DocumentsAreInOrder (db : Database) (name : List ℕ) : Type 0 where
  pub each : (job number : ℕ) → DocumentIsInOrder db name job number
  pub numbered : (job number : ℤ) → IsSome (document_at db name job number)
      → (j : ℕ) × (n : ℕ) × (job ≡ pos j) × (number ≡ pos n)

pub record GrantsAreInOrder (db : Database) (name : List ℕ) : Type 0 where
  pub each : (month : ℕ) → GrantIsInOrder db name month
  pub numbered : (month : ℕ) → grant_at db name (negsuc month) ≡ None

-- all of them but its own, which gives its next job that number
pub record OthersAreInOrder (db : Database) (name : List ℕ) (next : ℕ) : Type 0 where
  pub jobs : JobsAreInOrder db name next
  pub few : length (unfinished_rows db name) ≤ most_unfinished
  pub documents : DocumentsAreInOrder db name
  pub grants : GrantsAreInOrder db name

pub record RowsAreInOrder (db : Database) (name : List ℕ) (account : Account) : Type 0 where
  pub account_row : account_at db name ≡ Some (account_cells name account)
  pub in_range : IsAccount account
  pub others : OthersAreInOrder db name account.next_job

-- the rows are sound, of an account that is open or of one that is not
abbrev pub IsSoundAs : (db : Database) (name : List ℕ) (is_open : Bool) → Type 0
IsSoundAs db name true = (room : RoomValue) × HoldsRoom db name room
IsSoundAs db name false = HoldsNothing db name

-- they are those of no room whose next job has that number
abbrev pub AreOfNoRoom : (db : Database) (name : List ℕ) (next : ℕ) → Type 0
AreOfNoRoom db name next = (room : RoomValue) → HoldsRoom db name room → room.next ≡ next → ⊥

-- rows in order are those of a room that keeps its rules
abbrev pub RowsInOrderAreSound : Type 0
RowsInOrderAreSound = (db : Database) (name : List ℕ) (account : Account) → HasSchema db
    → RowsAreInOrder db name account → (room : RoomValue) × HoldsRoom db name room
