use Rattle.std.proofs.Common.{OnOk}
use Rattle.sqlite.specs.State.{HasCleanDisk}
use Rattle.sqlite.specs.Held.{state}
use Rattle.rows_tables.specs.Calls.{HasRun}
use Rattle.rows_tables.specs.Cells.{units_cells}
use Rattle.rows_statements.proofs.RateLemmas.{set_text, sets}
use Rattle.rows_tables.proofs.Settings.{sets_row}
use Rattle.rows_tables.proofs.Savepoints.{then_changed}
use Rattle.rows_statements.proofs.rates.set_rate.Goals as goal

pub returns-clause-sets : goal.returns-clause-sets
returns-clause-sets g c clean =
    let old = state g.S.Store c.args.savepoint.now.conn.now in
    let new = state g.S.Store c.write.new.savepoint.conn.now in
    let cells = units_cells c.args.name c.args.units in
    let ran : HasCleanDisk new → OnOk c.write.result (HasRun set_text cells old new) = rw (c.bytes.ensures.value, c.number.ensures) at c.write.ensures.runs in
    then_changed c.write.result _ _
    (λ run has. sets_row (sets c.args.name c.args.units) old new run.0 has run.1) (ran clean)
