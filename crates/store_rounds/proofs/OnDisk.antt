-- What stands on the disk where no transaction is under way.
use Rattle.std.proofs.Common.{◌≡◌, false, IsTrue, sym, ap, ◌∙◌}
use Rattle.sqlite_trees.specs.Tree.{Trees}
use Rattle.sqlite.specs.Effect.{Database}
use Rattle.sqlite.specs.State.{State}
use Rattle.rows_tables.specs.Crashes.{IsOnDisk}

-- outside a transaction an open connection sees what was committed, which is what a crash leaves
pub on_disk_so : (s : State) → s.in_transaction ≡ false → (IsTrue s.is_open → s.now ≡ s.committed) → (IsTrue s.is_open → (found : Trees) → s.may_leave found → found ≡ s.committed.trees) → IsOnDisk s
on_disk_so s outside same last = record { mode = outside; found = λ is_open found may. last is_open found may ∙ ap (λ (db : Database). db.trees) (sym (same is_open)) }
