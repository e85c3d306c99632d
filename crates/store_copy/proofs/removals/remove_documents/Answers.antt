use Rattle.std.proofs.Common.{[], ◌∷◌, OnOk, codes}
use Rattle.sqlite_value.specs.declared.value.Value.TheVariants.{Text}
use Rattle.sqlite_value.specs.Order.{Row}
use Rattle.sqlite.specs.State.{HasCleanDisk}
use Rattle.sqlite.specs.Held.{state}
use Rattle.rows_tables.specs.Calls.{HasRun}
use Rattle.rows_tables.proofs.KeyedTables.{document_in}
use Rattle.rows_tables.proofs.Savepoints.{then_changed}
use Rattle.store_copy.proofs.RemovalTexts.{removes_documents, removes_own}
use Rattle.store_copy.proofs.removals.remove_documents.Goals as goal

pub returns-clause-removes : goal.returns-clause-removes
returns-clause-removes g c clean =
    let old = state g.T.Store c.args.savepoint.now.conn.now in
    let new = state g.T.Store c.write.new.savepoint.conn.now in
    let params : Row = Text c.args.account ∷ [] in
    let ran : HasCleanDisk new → OnOk c.write.result (HasRun (codes "DELETE FROM document WHERE account = ?1") params old new) = rw c.bytes.ensures.value at c.write.ensures.runs in
    then_changed c.write.result _ _ (λ run has. removes_own document_in (codes "DELETE FROM document WHERE account = ?1") removes_documents c.args.account old new run.0 has run.1) (ran clean)
