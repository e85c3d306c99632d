-- For the proof of the code alone: what a call that may write nothing leaves of its savepoint.
use Rattle.std.specs.Prelude.{◌≡◌, ◌⊎◌, ◌+◌, IsTrue, Result, OnErr, OnOk}
use Rattle.sqlite_trees.specs.declared.store.Store.{Ghosts}
use Rattle.sqlite.specs.declared.savepoint.Savepoint.{Savepoint}
use Rattle.sqlite.specs.Held.{state}
use Rattle.sqlite.specs.State.{HasCleanDisk, Survives}
use Rattle.rows_tables.specs.Calls.{IsUndone, StaysInSavepoint}

-- where it answers, an open connection is open still and the savepoint is there; where it fails,
-- the savepoint is there too, or the transaction is undone; it commits nothing
pub record KeepsSavepoint {S T E : Type 0} {store : Ghosts S} (old new : Savepoint S store)
    (result : Result T E) : Type 0 where
  pub same_reference : new.conn.ghost_name ≡ old.conn.ghost_name
  pub place : new.at ≡ old.at
  pub opened : HasCleanDisk (state store new.conn.now) → OnOk result
      (IsTrue (state store old.conn.now).is_open → IsTrue (state store new.conn.now).is_open)
  pub stays : HasCleanDisk (state store new.conn.now) → OnOk result
      (StaysInSavepoint (old.at + 1) (state store old.conn.now) (state store new.conn.now))
  pub undone : HasCleanDisk (state store new.conn.now) → OnErr result
      (StaysInSavepoint (old.at + 1) (state store old.conn.now) (state store new.conn.now)
      ⊎ IsUndone (state store old.conn.now) (state store new.conn.now))
  pub survives : Survives (state store old.conn.now) (state store new.conn.now) (λ _. ⊥)
