use Rattle.std.proofs.Common.{take, Ok}
use Rattle.sqlite.specs.Held.{state}
use Rattle.sqlite.specs.State.{HasCleanDisk}
use Rattle.rows_tables.specs.declared.fault.TableFault.{TableFault}
use Rattle.rows_tables.specs.Keyed.{HasSchema}
use Rattle.store_copy.specs.ProofRows.{AddsDocuments}
use Rattle.store_copy.specs.ProofSavepoints.{KeepsSavepoint}
use Rattle.store_copy.proofs.documents.add_documents.Given as goal

abbrev pub invariant-loop-document : goal.invariant-loop-document
invariant-loop-document g l =
    KeepsSavepoint {T = Unit {0}} {E = TableFault} {store = g.T.Store} l.fn.savepoint l.savepoint (Ok tt)
    × (HasCleanDisk (state g.T.Store l.savepoint.conn.now) → HasSchema (state g.T.Store l.fn.savepoint.conn.now).now
    → HasSchema (state g.T.Store l.savepoint.conn.now).now × AddsDocuments l.account l.job (take l.document-index l.documents) (state g.T.Store l.fn.savepoint.conn.now).now (state g.T.Store l.savepoint.conn.now).now)
