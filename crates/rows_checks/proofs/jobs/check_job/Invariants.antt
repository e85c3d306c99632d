use Rattle.std.proofs.Common.{Ok}
use Rattle.sqlite.specs.State.{HasCleanDisk}
use Rattle.sqlite.specs.Held.{state}
use Rattle.rows_tables.specs.Calls.{ReadsStore}
use Rattle.rows_tables.specs.Keyed.{HasSchema}
use Rattle.rows_tables.specs.declared.fault.TableFault.{TableFault}
use Rattle.rows_checks.specs.Checks.{AreDocumentsThere}
use Rattle.rows_checks.proofs.jobs.check_job.Given as goal

abbrev pub invariant-loop-before : goal.invariant-loop-before
invariant-loop-before g l =
    let old = state g.R.S.Store (g.R.Reads.held l.fn.connection) in
    ReadsStore g.R.S.Store (g.R.Reads.held l.fn.connection) (g.R.Reads.held l.connection) {T = Unit {0}} {E = TableFault} (Ok tt)
    × (HasCleanDisk (state g.R.S.Store (g.R.Reads.held l.connection)) → HasSchema old.now → AreDocumentsThere old.now l.account l.number l.before)
    × (HasCleanDisk (state g.R.S.Store (g.R.Reads.held l.connection)) → HasCleanDisk (state g.R.S.Store (g.R.Reads.held l.initial.connection)))
