-- What each call over a connection keeps of the database and of its transaction, also where nothing
-- is known of the tables.
use Rattle.std.specs.Prelude.{◌≡◌, ◌⊎◌, ℕ, ◌+◌, ◌≤◌, false, IsTrue, List, [], length, take, Option, Result, Ok, Err, option_map, IfOk, OnOk, OnErr}
use Rattle.sqlite_disk.specs.Disk.{MoreFaults}
use Rattle.sqlite_value.specs.Order.{Row}
use Rattle.sqlite_trees.specs.Tree.{Trees}
use Rattle.sqlite_trees.specs.View.{doubt}
use Rattle.sqlite_trees.specs.declared.store.Store.{Ghosts}
use Rattle.sqlite.specs.Effect.{Database}
use Rattle.sqlite.specs.State.{State, HasCleanDisk, Survives, Executes}
use Rattle.sqlite.specs.Held.{Held, state}
use Rattle.sqlite.specs.declared.savepoint.Savepoint.{Savepoint}
use Rattle.sqlite.specs.declared.error.Error.{Error}
use Rattle.sqlite.specs.declared.error.Error.TheVariants.{SqliteFailure}
use Rattle.sqlite.specs.declared.error.ErrorCode.TheVariants.{ConstraintViolation}
use Rattle.sqlite_schema.specs.declared.schema.Constraint.TheVariants.{Unique}
use Rattle.rows_tables.specs.Keyed.{HasSchema}

-- ---- what a connection shows before a call and after it

-- No fault of the disk is forgotten, only a fault shuts the connection and nothing opens it again,
-- no transaction is left under way, and how its queries are limited and its reads tested stays.
pub record KeepsConnection (old new : State) : Type 0 where
  pub clean : doubt old.is_clean ≤ doubt new.is_clean
  pub back : HasCleanDisk new → IsTrue new.is_open → IsTrue old.is_open
  pub mode : HasCleanDisk new → old.in_transaction ≡ false → new.in_transaction ≡ false
  pub shield : old.IsShielded → new.IsShielded
  pub counts : old.faults ≤ new.faults
  pub limit : new.step_limit ≡ old.step_limit
  pub closes : HasCleanDisk new → IsTrue old.is_open
      → IsTrue new.is_open ⊎ MoreFaults old.faults new.faults

-- the tables are as they were, and so is whether a transaction is under way
pub record IsUnchanged (old new : State) : Type 0 where
  pub now : new.now ≡ old.now
  pub committed : new.committed ≡ old.committed
  pub mode : new.in_transaction ≡ old.in_transaction

-- a failure has undone the transaction that was under way, if one was: an open connection sees what
-- was committed
pub record IsUndone (old new : State) : Type 0 where
  pub was_open : IsTrue new.is_open → IsTrue old.is_open
  pub now : IsTrue new.is_open → new.now ≡ old.committed
  pub committed : IsTrue new.is_open → new.committed ≡ old.committed
  pub mode : new.in_transaction ≡ false
  pub unmarked : new.marks ≡ []

-- what is left after a fault
abbrev pub UnchangedOrUndone : (old new : State) → Type 0
UnchangedOrUndone old new = IsUnchanged old new ⊎ IsUndone old new

-- a transaction under way goes on, and nothing of it is committed; where none was, none is
pub record KeepsTransaction (old new : State) : Type 0 where
  pub mode : new.in_transaction ≡ old.in_transaction
  pub committed : IsTrue old.in_transaction → new.committed ≡ old.committed

-- an open after a crash finds nothing that it could not have found before
abbrev pub LeavesNoMore : (old new : State) → Type 0
LeavesNoMore old new = (found : Trees) → new.may_leave found → old.may_leave found

-- a read by a key: what is shown of the row that is there, and nothing is changed
pub record Gets (old new : State) (there : Option Row) (shown : Row → Row)
    (result : Result (Option Row) Error) : Type 0 where
  pub found : IfOk result (λ o. o ≡ option_map shown there)
  pub same : OnOk result (IsUnchanged old new)
  pub stays : UnchangedOrUndone old new
  pub crash : LeavesNoMore old new

-- a write: the statement has run, whatever it counted
abbrev pub HasRun : (text : List ℕ) (params : Row) (old new : State) → Type 0
HasRun text params old new = (count : ℕ) × Executes text params old new (Ok count)

-- the statement was refused as a second row of a key
abbrev pub IsTaken : (text : List ℕ) (params : Row) (old new : State) → Type 0
IsTaken text params old new =
    Executes text params old new (Err (SqliteFailure (ConstraintViolation Unique)))

-- ---- the same of a connection, in the words that clauses use

module _ {S : Type 0} (store : Ghosts S) (old new : Held S) where
  -- told of the tables as the call found them, where the disk was honest
  abbrev pub IfDiskHonest : (Database → Type 0) → Type 0
  IfDiskHonest told = HasCleanDisk (state store new) → told (state store old).now

  -- a connection that is still open sees the tables as they were
  abbrev pub UnchangedIfHonest : Type 0
  UnchangedIfHonest =
      IfDiskHonest (λ db. IsTrue (state store new).is_open → (state store new).now ≡ db)

  -- and where they are the store's
  abbrev pub IfOurTables : (Database → Type 0) → Type 0
  IfOurTables told =
      HasCleanDisk (state store new) → HasSchema (state store old).now → told (state store old).now

  module _ {T E : Type 0} where
    -- what answers had an open connection, and leaves it open
    pub record KeepsOpen (result : Result T E) : Type 0 where
      pub keeps : KeepsConnection (state store old) (state store new)
      pub opened : HasCleanDisk (state store new)
          → OnOk result (IsTrue (state store old).is_open × IsTrue (state store new).is_open)

    -- a read: where so much is known of the tables it leaves them as they were, whether it answers
    -- or not
    pub record OnlyReads (Known : Database → Type 0) (result : Result T E) : Type 0 where
      pub keeps : KeepsConnection (state store old) (state store new)
      pub opened : HasCleanDisk (state store new)
          → OnOk result (IsTrue (state store old).is_open × IsTrue (state store new).is_open)
      pub same : IfDiskHonest
          (λ db. Known db → OnOk result (IsUnchanged (state store old) (state store new)))
      pub stays : IfDiskHonest
          (λ db. Known db → UnchangedOrUndone (state store old) (state store new))
      pub crash : IfDiskHonest
          (λ db. Known db → LeavesNoMore (state store old) (state store new))

    -- of the store's tables
    abbrev pub ReadsStore : Result T E → Type 0
    ReadsStore result = OnlyReads HasSchema result

  -- of the store's tables, by a key
  abbrev pub GetsRow : (Database → Option Row) → (Row → Row) → Result (Option Row) Error → Type 0
  GetsRow there shown result =
      IfOurTables (λ db. Gets (state store old) (state store new) (there db) shown result)

  module _ {T E : Type 0} (result : Result T E) where
    -- what is made of the tables, where the disk was honest
    abbrev pub MakesIfHonest : (Database → Database → Type 0) → Type 0
    MakesIfHonest made = HasCleanDisk (state store new)
        → OnOk result (made (state store old).now (state store new).now)

    -- and of the store's, which they stay
    abbrev pub Changes : (Database → Database → Type 0) → Type 0
    Changes changed =
        MakesIfHonest (λ before after. HasSchema before → HasSchema after × changed before after)

    -- the whole is made, or nothing is: within a transaction that is under way it is committed
    -- with that, and else at once
    pub record AllOrNothing : Type 0 where
      pub keeps : KeepsConnection (state store old) (state store new)
      pub opened : HasCleanDisk (state store new)
          → OnOk result (IsTrue (state store old).is_open × IsTrue (state store new).is_open)
      pub within : HasCleanDisk (state store new)
          → OnOk result (KeepsTransaction (state store old) (state store new))
      pub undone : HasCleanDisk (state store new)
          → OnErr result (UnchangedOrUndone (state store old) (state store new))

  -- what an open after a crash finds is the tables that a change leaves, which no transaction was
  -- under way around
  pub record IsFoundWhole (changed : Database → Database → Type 0) (found : Trees) : Type 0 where
    pub after : Database
    pub trees : after.trees ≡ found
    pub schema : HasSchema after
    pub change : changed (state store old).now after
    pub outside : (state store old).in_transaction ≡ false

  -- an open after a crash finds what it could have found before, or the whole change
  abbrev pub LeavesWhole : (Database → Database → Type 0) → Type 0
  LeavesWhole changed = IfOurTables (λ db. (found : Trees) → (state store new).may_leave found
      → (state store old).may_leave found ⊎ IsFoundWhole changed found)

  -- the store's tables are changed so, all or none, also over a crash
  pub record ChangesWhole {T E : Type 0} (result : Result T E)
      (changed : Database → Database → Type 0) : Type 0 where
    pub whole : AllOrNothing result
    pub made : Changes result changed
    pub crash : LeavesWhole changed

-- ---- inside a savepoint, which holds so many of the oldest savepoints

-- the transaction is under way as it was, with those savepoints, and nothing of it is committed
pub record StaysInSavepoint (held : ℕ) (old new : State) : Type 0 where
  pub was_open : IsTrue new.is_open → IsTrue old.is_open
  pub committed : new.committed ≡ old.committed
  pub mode : new.in_transaction ≡ old.in_transaction
  pub marks : held ≤ length old.marks → take held new.marks ≡ take held old.marks

-- a write that answers has left the savepoint there, and one that fails too, or the transaction is
-- undone; it commits nothing
pub record WritesInSavepoint {S T E : Type 0} {store : Ghosts S} (old new : Savepoint S store)
    (result : Result T E) : Type 0 where
  pub same_reference : new.conn.ghost_name ≡ old.conn.ghost_name
  pub place : new.at ≡ old.at
  pub opened : HasCleanDisk (state store new.conn.now) → OnOk result
      (IsTrue (state store old.conn.now).is_open × IsTrue (state store new.conn.now).is_open)
  pub inside : HasCleanDisk (state store new.conn.now)
      → OnOk result (IsTrue (state store old.conn.now).in_transaction)
  pub stays : HasCleanDisk (state store new.conn.now) → OnOk result
      (StaysInSavepoint (old.at + 1) (state store old.conn.now) (state store new.conn.now))
  pub undone : HasCleanDisk (state store new.conn.now) → OnErr result
      (StaysInSavepoint (old.at + 1) (state store old.conn.now) (state store new.conn.now)
      ⊎ IsUndone (state store old.conn.now) (state store new.conn.now))
  pub survives : Survives (state store old.conn.now) (state store new.conn.now) (λ _. ⊥)
