use Rattle.std.proofs.Common.{Ok}
use Rattle.sqlite.specs.Held.{state}
use Rattle.sqlite.specs.State.{HasCleanDisk}
use Rattle.rows_tables.specs.declared.fault.TableFault.{TableFault}
use Rattle.rows_tables.specs.Keyed.{HasSchema}
use Rattle.store_copy.specs.Parts.{AddsJobs}
use Rattle.store_copy.specs.ProofSavepoints.{KeepsSavepoint}
use Rattle.store_copy.specs.Sources.{LeavesSource}
use Rattle.store_copy.proofs.AtMost.{HasSpace}
use Rattle.store_copy.proofs.jobs.copy_jobs.Given as goal

abbrev pub invariant-loop-number : goal.invariant-loop-number
invariant-loop-number g l =
    let source = state g.S.Store l.fn.source in
    let before = state g.T.Store l.fn.savepoint.conn.now in
    let after = state g.T.Store l.savepoint.conn.now in
    LeavesSource {T = Unit {0}} {E = TableFault} g.S.Store l.fn.source l.source (Ok tt)
    × KeepsSavepoint {T = Unit {0}} {E = TableFault} {store = g.T.Store} l.fn.savepoint l.savepoint (Ok tt)
    × (HasCleanDisk after → HasSchema before.now → HasSchema after.now
    × (HasCleanDisk (state g.S.Store l.source) → HasSchema source.now → AddsJobs l.account l.first l.number source.now before.now after.now))
    × HasSpace l.most l.first l.number
