-- For the proof of the code alone: which part of an account's rows the copy has so far (all this
-- project's own).
use Rattle.std.specs.Prelude.{◌≡◌, ◌⊎◌, ℕ, ◌<◌, ◌≤◌, List, None}
use Rattle.std.specs.List.{AllByRecursion}
use Rattle.std.specs.declared.cmp.Ordering.{Ordering}
use Rattle.std.specs.FinMap.{FinMap, get}
use Rattle.sqlite.specs.Effect.{Database}
use Rattle.account_rules.specs.declared.job.Document.{Document}
use Rattle.account_rules.specs.declared.account.Grant.{Grant}
use Rattle.account_state.specs.Rooms.{RoomValue}
use Rattle.rows_tables.specs.Accounts.{HoldsRoom, HoldsRows}
use Rattle.rows_statements.specs.Alone.{OnlyAccount}

-- ---- a part of a room

-- at each key the part has what the whole has, or nothing
abbrev pub IsWithin : {K X : Type 0} {R : K → K → Ordering} → (whole part : FinMap R X) → Type 0
IsWithin {K} whole part = (key : K) → (get part key ≡ None) ⊎ (get part key ≡ get whole key)

pub record IsPartOf (room part : RoomValue) : Type 0 where
  pub opened : part.opened ≡ room.opened
  pub next : part.next ≡ room.next
  pub jobs : IsWithin room.jobs part.jobs
  pub documents : IsWithin room.documents part.documents
  pub grants : IsWithin room.grants part.grants

-- ---- what of the room the part has

abbrev pub HasJob : (number : ℕ) (room part : RoomValue) → Type 0
HasJob number room part = get part.jobs number ≡ get room.jobs number

abbrev pub HasDocument : (job number : ℕ) (room part : RoomValue) → Type 0
HasDocument job number room part =
    get part.documents (job, number) ≡ get room.documents (job, number)

abbrev pub HasGrant : (month : ℕ) (room part : RoomValue) → Type 0
HasGrant month room part = get part.grants month ≡ get room.grants month

-- the documents of a job
abbrev pub HasDocuments : (job : ℕ) (room part : RoomValue) → Type 0
HasDocuments job room part = (number : ℕ) → HasDocument job number room part

-- a job with its documents
pub record HasWholeJob (number : ℕ) (room part : RoomValue) : Type 0 where
  pub job : HasJob number room part
  pub documents : HasDocuments number room part

-- the jobs from 1 on that come before a number
abbrev pub HasJobsBefore : (next : ℕ) (room part : RoomValue) → Type 0
HasJobsBefore next room part =
    (number : ℕ) → 1 ≤ number → number < next → HasWholeJob number room part

abbrev pub HasGrants : (room part : RoomValue) → Type 0
HasGrants room part = (month : ℕ) → HasGrant month room part

-- these documents of a job, and these grants
abbrev pub HasTheseDocuments : (job : ℕ) (documents : List Document) (room part : RoomValue)
    → Type 0
HasTheseDocuments job documents room part =
    AllByRecursion (λ (it : Document). HasDocument job it.number room part) documents

abbrev pub HasTheseGrants : (grants : List Grant) (room part : RoomValue) → Type 0
HasTheseGrants grants room part =
    AllByRecursion (λ (it : Grant). HasGrant it.month room part) grants

-- all jobs with their documents, and all grants
pub record HasAll (next : ℕ) (room part : RoomValue) : Type 0 where
  pub jobs : HasJobsBefore next room part
  pub grants : HasGrants room part

-- ---- how it grows

-- what of the room the part has, the further part has too
pub record GoesOn (room part further : RoomValue) : Type 0 where
  pub jobs : (number : ℕ) → HasJob number room part → HasJob number room further
  pub documents : (job number : ℕ)
      → HasDocument job number room part → HasDocument job number room further
  pub grants : (month : ℕ) → HasGrant month room part → HasGrant month room further

-- rows of the part are added, so that it has this too
pub record HoldsMore (db : Database) (name : List ℕ) (room part : RoomValue)
    (Has : RoomValue → RoomValue → Type 0) : Type 0 where
  pub further : RoomValue
  pub is_part : IsPartOf room further
  pub rows : HoldsRows db name further
  pub goes_on : GoesOn room part further
  pub has : Has room further

-- so it is of each room that the account can be in the source; nobody else's rows change
pub record CopiesMore (name : List ℕ) (Has : RoomValue → RoomValue → Type 0)
    (source before after : Database) : Type 0 where
  pub more : (room part : RoomValue) → HoldsRoom source name room → IsPartOf room part
      → HoldsRows before name part → HoldsMore after name room part Has
  pub alone : OnlyAccount name before after
