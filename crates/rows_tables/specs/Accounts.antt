-- Which rows of the shared tables are an account, and which rooms they can be (all this project's
-- own).
use Rattle.std.specs.Prelude.{◌≡◌, ℕ, ◌≤◌, ℤ, pos, negsuc, List, [], ◌∷◌, Option, Some, None, option_map}
use Rattle.std.specs.Ordering.{nat_cmp}
use Rattle.std.specs.FinMap.{FinMap, get}
use Rattle.sqlite_value.specs.declared.value.Value.TheVariants.{Int, Text}
use Rattle.sqlite_value.specs.Order.{Row}
use Rattle.sqlite.specs.Effect.{Database}
use Rattle.account_rules.specs.Limits.{last_next_job, IsMoment}
use Rattle.account_rules.specs.declared.account.Account.{Account}
use Rattle.account_state.specs.Rooms.{RoomValue, place_cmp}
use Rattle.account_state.specs.RoomRules.{IsRoom}
use Rattle.rows_tables.specs.Tables.{account, job, document, grants}
use Rattle.rows_tables.specs.Keyed.{row_at}
use Rattle.rows_tables.specs.Cells.{account_cells, job_cells, document_cells, grant_cells}

-- ---- the rows of an account: those whose account is exactly this text, key by key

abbrev pub account_at : (db : Database) (name : List ℕ) → Option Row
account_at db name = row_at account (Text name ∷ []) db

abbrev pub job_at : (db : Database) (name : List ℕ) (number : ℤ) → Option Row
job_at db name number = row_at job (Text name ∷ Int number ∷ []) db

abbrev pub document_at : (db : Database) (name : List ℕ) (job number : ℤ) → Option Row
document_at db name job number = row_at document (Text name ∷ Int job ∷ Int number ∷ []) db

abbrev pub grant_at : (db : Database) (name : List ℕ) (month : ℤ) → Option Row
grant_at db name month = row_at grants (Text name ∷ Int month ∷ []) db

-- the two databases have the same rows of the account
pub record AgreeOnRows (name : List ℕ) (a b : Database) : Type 0 where
  pub same_account : account_at b name ≡ account_at a name
  pub same_jobs : (number : ℤ) → job_at b name number ≡ job_at a name number
  pub same_documents : (job number : ℤ)
      → document_at b name job number ≡ document_at a name job number
  pub same_grants : (month : ℤ) → grant_at b name month ≡ grant_at a name month

-- ---- the room that they are

-- what stands under a number; under a negative one, nothing
abbrev pub under : {X : Type 0} → (map : FinMap nat_cmp X) (key : ℤ) → Option X
under map (pos n) = get map n
under map (negsuc _) = None

abbrev pub under_pair : {X : Type 0} → (map : FinMap place_cmp X) (m n : ℤ) → Option X
under_pair map (pos m) (pos n) = get map (m, n)
under_pair map _ _ = None

abbrev pub whole : ℤ → ℕ
whole (pos n) = n
whole (negsuc _) = 0

abbrev pub account_of_room : RoomValue → Account
account_of_room room = record { opened = room.opened; next_job = room.next }

-- the rows of the account are those of the room, and no others; between the writes of one event the
-- room may break its rules
pub record HoldsRows (db : Database) (name : List ℕ) (room : RoomValue) : Type 0 where
  pub account_row : account_at db name ≡ Some (account_cells name (account_of_room room))
  pub job_rows : (number : ℤ)
      → job_at db name number ≡ option_map (job_cells name) (under room.jobs number)
  pub document_rows : (job number : ℤ) → document_at db name job number
      ≡ option_map (document_cells name) (under_pair room.documents job number)
  pub grant_rows : (month : ℤ) → grant_at db name month
      ≡ option_map (grant_cells name (whole month)) (under room.grants month)

-- the rows of the account are those of a room that keeps its rules
pub record HoldsRoom (db : Database) (name : List ℕ) (room : RoomValue) : Type 0 where
  pub is_room : IsRoom room
  pub rows : HoldsRows db name room

-- the account has no row
pub record HoldsNothing (db : Database) (name : List ℕ) : Type 0 where
  pub no_account : account_at db name ≡ None
  pub no_job : (number : ℤ) → job_at db name number ≡ None
  pub no_document : (job number : ℤ) → document_at db name job number ≡ None
  pub no_grant : (month : ℤ) → grant_at db name month ≡ None

abbrev pub Holds : (db : Database) (name : List ℕ) (room : Option RoomValue) → Type 0
Holds db name None = HoldsNothing db name
Holds db name (Some room) = HoldsRoom db name room

-- the rows of the account are sound: they are those of one room, or there are none
abbrev pub IsSound : (db : Database) (name : List ℕ) → Type 0
IsSound db name = (room : Option RoomValue) × Holds db name room

-- ---- an account's own row

-- in the ranges that a room keeps
pub record IsAccount (account : Account) : Type 0 where
  pub opened_in_range : IsMoment account.opened
  pub next_from_one : 1 ≤ account.next_job
  pub next_in_range : account.next_job ≤ last_next_job
