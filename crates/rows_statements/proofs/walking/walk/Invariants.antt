use Rattle.std.proofs.Common.{◌≡◌, List, IsTrue}
use Rattle.sqlite_value.specs.Order.{Row}
use Rattle.sqlite.specs.Listing.{understood}
use Rattle.sqlite.specs.State.{HasCleanDisk, IsUnchanged, Survives, CommitsShowing}
use Rattle.sqlite.specs.Held.{state}
use Rattle.sqlite.specs.Values.{bound}
use Rattle.sqlite.specs.Given.{HasGiven, IsPlain}
use Rattle.rows_tables.specs.Calls.{KeepsConnection}
use Rattle.rows_statements.specs.Walks.{GathersAll, HasGathered}
use Rattle.rows_statements.proofs.walking.walk.Given as goal

abbrev pub invariant-rows : goal.invariant-rows
invariant-rows g l =
    let old = state g.S.Store l.fn.connection in
    let now = state g.S.Store l.rows.conn.now in
    (l.rows.conn.ghost_name ≡ l.initial.rows.conn.ghost_name) × KeepsConnection old now × (HasCleanDisk now → IsTrue old.is_open × IsTrue now.is_open)
    × (HasCleanDisk now → IsPlain (understood old.now.schema l.text) → (given : List Row) × HasGiven g.S.Store l.text (bound l.params) l.rows.conn.now given × IsUnchanged old now × GathersAll g.G.Gather.step l.fn.gathered given l.gathered)
    × HasGathered g.G.Gather.step l.fn.gathered l.gathered × Survives old now (CommitsShowing l.text (bound l.params) old)
