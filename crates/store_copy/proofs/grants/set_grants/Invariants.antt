use Rattle.std.proofs.Common.{take, Ok}
use Rattle.sqlite.specs.Held.{state}
use Rattle.sqlite.specs.State.{HasCleanDisk}
use Rattle.sqlite.specs.declared.error.Error.{Error}
use Rattle.rows_tables.specs.Keyed.{HasSchema}
use Rattle.store_copy.specs.ProofRows.{AddsGrants}
use Rattle.store_copy.specs.ProofSavepoints.{KeepsSavepoint}
use Rattle.store_copy.proofs.grants.set_grants.Given as goal

abbrev pub invariant-loop-grant : goal.invariant-loop-grant
invariant-loop-grant g l =
    KeepsSavepoint {T = Unit {0}} {E = Error} {store = g.T.Store} l.fn.savepoint l.savepoint (Ok tt)
    × (HasCleanDisk (state g.T.Store l.savepoint.conn.now) → HasSchema (state g.T.Store l.fn.savepoint.conn.now).now
    → HasSchema (state g.T.Store l.savepoint.conn.now).now × AddsGrants l.account (take l.grant-index l.grants) (state g.T.Store l.fn.savepoint.conn.now).now (state g.T.Store l.savepoint.conn.now).now)
