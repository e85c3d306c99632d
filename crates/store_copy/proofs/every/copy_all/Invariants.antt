use Rattle.std.proofs.Common.{◌≡◌, ℕ, List, Ok}
use Rattle.sqlite.specs.Held.{state}
use Rattle.sqlite.specs.State.{HasCleanDisk}
use Rattle.rows_tables.specs.Accounts.{HoldsNothing}
use Rattle.rows_tables.specs.Calls.{KeepsConnection}
use Rattle.rows_tables.specs.Keyed.{HasSchema}
use Rattle.rows_tables.specs.declared.fault.TableFault.{TableFault}
use Rattle.store_copy.specs.Copies.{HoldsNoDevice}
use Rattle.store_copy.specs.Slices.{IfNamed}
use Rattle.store_copy.specs.Sources.{LeavesSource}
use Rattle.store_copy.proofs.SoFar.{SoFar}
use Rattle.store_copy.proofs.every.copy_all.Given as goal

abbrev pub invariant-loop : goal.invariant-loop
invariant-loop g l =
    let source = (state g.S.Store l.fn.source).now in
    let before = state g.T.Store l.fn.copy in
    let after = state g.T.Store l.copy in
    LeavesSource {T = Unit {0}} {E = TableFault} g.S.Store l.fn.source l.source (Ok tt)
    × KeepsConnection before after
    × (HasCleanDisk after → HasSchema before.now → HasSchema after.now
    × (HasCleanDisk (state g.S.Store l.source) → HasSchema source → IfNamed source (((name : List ℕ) → HoldsNothing before.now name) → HoldsNoDevice before.now → SoFar (λ db. db ≡ source) l.progress source after.now)))
