use Rattle.std.proofs.Common.{take, Ok}
use Rattle.std.specs.List.{AllByRecursion}
use Rattle.sqlite.specs.State.{HasCleanDisk}
use Rattle.sqlite.specs.Held.{state}
use Rattle.rows_tables.specs.Calls.{ReadsStore}
use Rattle.rows_tables.specs.Keyed.{HasSchema}
use Rattle.rows_tables.specs.declared.fault.TableFault.{TableFault}
use Rattle.rows_checks.specs.Checks.{JobIsInOrder}
use Rattle.rows_checks.proofs.jobs.check_jobs.Given as goal

abbrev pub invariant-loop-number : goal.invariant-loop-number
invariant-loop-number g l =
    let old = state g.R.S.Store (g.R.Reads.held l.fn.connection) in
    ReadsStore g.R.S.Store (g.R.Reads.held l.fn.connection) (g.R.Reads.held l.connection) {T = Unit {0}} {E = TableFault} (Ok tt)
    × (HasCleanDisk (state g.R.S.Store (g.R.Reads.held l.connection)) → HasSchema old.now → AllByRecursion (JobIsInOrder old.now l.account l.next_job) (take l.number-index l.number-items))
    × (HasCleanDisk (state g.R.S.Store (g.R.Reads.held l.connection)) → HasCleanDisk (state g.R.S.Store (g.R.Reads.held l.initial.connection)))
