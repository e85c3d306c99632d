use Rattle.std.proofs.Common.{ℕ, take, Ok}
use Rattle.std.specs.List.{AllByRecursion}
use Rattle.sqlite.specs.State.{HasCleanDisk}
use Rattle.sqlite.specs.Held.{state}
use Rattle.rows_tables.specs.Calls.{ReadsStore}
use Rattle.rows_tables.specs.Keyed.{HasSchema}
use Rattle.rows_tables.specs.declared.fault.TableFault.{TableFault}
use Rattle.rows_checks.specs.Checks.{DocumentIsInOrder}
use Rattle.rows_checks.proofs.documents.check_places.Given as goal

abbrev pub invariant-loop-job : goal.invariant-loop-job
invariant-loop-job g l =
    let old = state g.R.S.Store (g.R.Reads.held l.fn.connection) in
    ReadsStore g.R.S.Store (g.R.Reads.held l.fn.connection) (g.R.Reads.held l.connection) {T = Unit {0}} {E = TableFault} (Ok tt)
    × (HasCleanDisk (state g.R.S.Store (g.R.Reads.held l.connection)) → HasSchema old.now → AllByRecursion (λ (place : ℕ × ℕ). DocumentIsInOrder old.now l.account place.0 place.1) (take l.job-index l.job-items))
    × (HasCleanDisk (state g.R.S.Store (g.R.Reads.held l.connection)) → HasCleanDisk (state g.R.S.Store (g.R.Reads.held l.initial.connection)))
