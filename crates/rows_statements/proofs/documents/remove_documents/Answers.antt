use Rattle.std.proofs.Common.{[], ◌∷◌, OnOk}
use Rattle.sqlite_value.specs.declared.value.Value.TheVariants.{Text}
use Rattle.sqlite_value.specs.Order.{Row}
use Rattle.sqlite.specs.State.{HasCleanDisk}
use Rattle.sqlite.specs.Held.{state}
use Rattle.rows_tables.specs.Calls.{HasRun}
use Rattle.rows_tables.specs.Cells.{number}
use Rattle.rows_statements.proofs.DocumentLemmas.{removes_documents}
use Rattle.rows_statements.proofs.DocumentRemoval.{remove_text}
use Rattle.rows_tables.proofs.Savepoints.{then_changed}
use Rattle.rows_statements.proofs.documents.remove_documents.Goals as goal

pub returns-clause-removes : goal.returns-clause-removes
returns-clause-removes g c clean =
    let old = state g.S.Store c.args.savepoint.now.conn.now in
    let new = state g.S.Store c.write.new.savepoint.conn.now in
    let params : Row = Text c.args.account ∷ number c.args.job ∷ [] in
    let ran : HasCleanDisk new → OnOk c.write.result (HasRun remove_text params old new) = rw (c.bytes.ensures.value, c.number.ensures) at c.write.ensures.runs in
    then_changed c.write.result _ _
    (λ run has. let gone = removes_documents c.args.account c.args.job old new run.0 has run.1 in (gone.1, gone.0)) (ran clean)
