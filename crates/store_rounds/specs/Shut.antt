-- What is left of a connection that a fault has shut (all this project's own).
use Rattle.std.specs.Prelude.{IsTrue}
use Rattle.sqlite.specs.State.{State, HasCleanDisk}
use Rattle.rows_tables.specs.Calls.{LeavesNoMore}

-- where it was shut before the call a crash finds nothing that it could not have found then
abbrev pub LeavesIfShut : (old new : State) → Type 0
LeavesIfShut old new = HasCleanDisk new → (IsTrue old.is_open → ⊥) → LeavesNoMore old new
