-- What a read of the tables leaves of its connection (all this project's own).
use Rattle.std.specs.Prelude.{Result, OnOk, OnErr, IsTrue}
use Rattle.sqlite_trees.specs.declared.store.Store.{Ghosts}
use Rattle.sqlite.specs.State.{HasCleanDisk}
use Rattle.sqlite.specs.Held.{Held, state}
use Rattle.rows_tables.specs.Calls.{KeepsConnection, IsUnchanged, IfOurTables, LeavesNoMore, UnchangedOrUndone}
use Rattle.rows_tables.specs.declared.fault.TableFault.{TableFault}

module _ {S : Type 0} (store : Ghosts S) (old new : Held S) where
  -- what a connection keeps, whether it was asked or not; one that is open stays so where there is
  -- an answer
  pub record StaysOpen {T : Type 0} (result : Result T TableFault) : Type 0 where
    pub keeps : KeepsConnection (state store old) (state store new)
    pub opened : HasCleanDisk (state store new) →
        OnOk result (IsTrue (state store old).is_open → IsTrue (state store new).is_open)

  -- it is answered only where the connection was open
  abbrev pub WasOpen : {T : Type 0} (result : Result T TableFault) → Type 0
  WasOpen result = HasCleanDisk (state store new) → OnOk result (IsTrue (state store old).is_open)

  -- a look-up, which may ask the tables or not
  pub record LooksUp {T : Type 0} (result : Result T TableFault) : Type 0 where
    pub connection : StaysOpen result
    pub same : IfOurTables store old new (λ db.
        OnOk result (IsUnchanged (state store old) (state store new)))
    pub undone : IfOurTables store old new (λ db.
        OnErr result (UnchangedOrUndone (state store old) (state store new)))
    pub crash : IfOurTables store old new (λ db. LeavesNoMore (state store old) (state store new))
