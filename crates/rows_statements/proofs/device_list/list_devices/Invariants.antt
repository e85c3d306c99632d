use Rattle.std.proofs.Common.{◌≡◌, map, take, Ok}
use Rattle.std.specs.List.{AllByRecursion}
use Rattle.sqlite.specs.State.{HasCleanDisk}
use Rattle.sqlite.specs.Held.{state}
use Rattle.rows_tables.specs.Calls.{ReadsStore}
use Rattle.rows_tables.specs.Keyed.{HasSchema}
use Rattle.rows_tables.specs.declared.fault.TableFault.{TableFault}
use Rattle.rows_statements.specs.DeviceLists.{switch_of, HasRate}
use Rattle.rows_statements.proofs.device_list.list_devices.Given as goal

abbrev pub invariant-loop-name : goal.invariant-loop-name
invariant-loop-name g l =
    let old = state g.R.S.Store (g.R.Reads.held l.fn.connection) in
    ReadsStore g.R.S.Store (g.R.Reads.held l.fn.connection) (g.R.Reads.held l.connection) {T = Unit {0}} {E = TableFault} (Ok tt)
    × (map switch_of l.items.items ≡ take l.name-index l.name-items)
    × (HasCleanDisk (state g.R.S.Store (g.R.Reads.held l.connection)) → HasSchema old.now → AllByRecursion (HasRate old.now) l.items.items)
    × (HasCleanDisk (state g.R.S.Store (g.R.Reads.held l.connection)) → HasCleanDisk (state g.R.S.Store (g.R.Reads.held l.initial.connection)))
