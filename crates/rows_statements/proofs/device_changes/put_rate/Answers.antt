use Rattle.std.proofs.Common.{◌≡◌, subst, rules}
use Rattle.std.proofs.lemmas.Result.{err_from_is_err_and}
use Rattle.rows_tables.specs.Cells.{units_cells}
use Rattle.rows_tables.specs.Keyed.{SetsRow}
use Rattle.rows_tables.specs.Tables.{rates as rates_table}
use Rattle.rows_tables.specs.Calls.{ChangesWhole}
use Rattle.rows_tables.proofs.SavepointChanges.{ended_changed, unwritten_changed}
use Rattle.rows_statements.proofs.device_changes.put_rate.Goals as goal

pub returns-in_err-set_rate-clause-sets : goal.returns-in_err-set_rate-clause-sets
returns-in_err-set_rate-clause-sets g c =
    let told = err_from_is_err_and c.from_residual-in_err-set_rate.result c.from_residual-in_err-set_rate.ensures.1 in
    let same : c.drop-savepoint.new.self.0 ≡ c.connection-in_err-set_rate-1.given.0 = search rules in
    subst (λ h. ChangesWhole g.S.Store c.args.connection.now h c.from_residual-in_err-set_rate.result (SetsRow rates_table (units_cells c.args.name c.args.units))) same
    (unwritten_changed g.S.Store c.args.connection.now c.drop-savepoint.new.self.0 c.in_ok-savepoint.savepoint c.set_rate.new.savepoint c.in_ok-savepoint.ensures.ok c.in_ok-savepoint.ensures.survives c.in_err-set_rate.field-0.0 c.in_err-set_rate.ensures.inside c.drop-savepoint.ensures.survives c.drop-savepoint.ensures.undone _ _ told.1 (SetsRow rates_table (units_cells c.args.name c.args.units)))

pub returns-clause-sets : goal.returns-clause-sets
returns-clause-sets g c =
    let same : c.commit.new.self.0 ≡ c.connection-2-1.given.0 = search rules in
    subst (λ h. ChangesWhole g.S.Store c.args.connection.now h c.commit.result (SetsRow rates_table (units_cells c.args.name c.args.units))) same
    (ended_changed g.S.Store c.args.connection.now c.commit.new.self.0 c.in_ok-savepoint.savepoint c.set_rate.new.savepoint c.in_ok-savepoint.ensures.ok c.in_ok-savepoint.ensures.survives _ c.in_ok-set_rate.ensures.inside c.commit.ensures.survives c.commit.result c.commit.ensures.ok c.commit.ensures.err (SetsRow rates_table (units_cells c.args.name c.args.units)) c.in_ok-set_rate.ensures.sets)
