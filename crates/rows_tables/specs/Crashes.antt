-- What is found of a database that is opened after a crash (all this project's own).
use Rattle.std.specs.Prelude.{◌≡◌, ◌↔◌, false, IsTrue}
use Rattle.sqlite_trees.specs.Tree.{Trees}
use Rattle.sqlite_trees.specs.declared.store.Store.{Ghosts}
use Rattle.sqlite.specs.Held.{Held, state}
use Rattle.sqlite.specs.State.{State}

-- the last commit and nothing else: no earlier one, and nothing that was not committed
abbrev pub FindsLastCommit : State → Type 0
FindsLastCommit s = (found : Trees) → (s.may_leave found ↔ (found ≡ s.committed.trees))

-- No transaction is under way, and while the connection is open a crash finds the tables as they
-- are seen, and nothing else.
pub record IsOnDisk (s : State) : Type 0 where
  pub mode : s.in_transaction ≡ false
  pub found : IsTrue s.is_open → (found : Trees) → s.may_leave found → found ≡ s.now.trees

-- ---- what follows

-- so it is of every connection, while that is open
abbrev pub CrashesFindLastCommit : {S : Type 0} → Ghosts S → Type 0
CrashesFindLastCommit {S} store =
    (held : Held S) → IsTrue (state store held).is_open → FindsLastCommit (state store held)
