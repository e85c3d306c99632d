-- That a copy leaves its source as it was (all this project's own).
use Rattle.std.specs.Prelude.{Result, OnOk}
use Rattle.sqlite_trees.specs.declared.store.Store.{Ghosts}
use Rattle.sqlite.specs.Held.{Held, state}
use Rattle.rows_tables.specs.Calls.{IfDiskHonest, IsUnchanged, KeepsConnection, LeavesNoMore, UnchangedOrUndone}
use Rattle.rows_tables.specs.Keyed.{HasSchema}

-- the store's tables stay as they were, whether the call answers or not, and also where it had
-- nothing to read
pub record LeavesSource {S T E : Type 0} (store : Ghosts S) (old new : Held S)
    (result : Result T E) : Type 0 where
  pub keeps : KeepsConnection (state store old) (state store new)
  pub same : IfDiskHonest store old new
      (λ db. HasSchema db → OnOk result (IsUnchanged (state store old) (state store new)))
  pub stays : IfDiskHonest store old new
      (λ db. HasSchema db → UnchangedOrUndone (state store old) (state store new))
  pub crash : IfDiskHonest store old new
      (λ db. HasSchema db → LeavesNoMore (state store old) (state store new))
