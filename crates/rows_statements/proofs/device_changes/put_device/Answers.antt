use Rattle.std.proofs.Common.{◌≡◌, subst, rules}
use Rattle.std.proofs.lemmas.Result.{err_from_is_err_and}
use Rattle.rows_statements.specs.Rows.{SetsDevice}
use Rattle.rows_tables.specs.Calls.{ChangesWhole}
use Rattle.rows_tables.proofs.SavepointChanges.{ended_changed, unwritten_changed}
use Rattle.rows_statements.proofs.device_changes.put_device.Goals as goal

pub returns-in_err-switch-clause-turns : goal.returns-in_err-switch-clause-turns
returns-in_err-switch-clause-turns g c =
    let told = err_from_is_err_and c.from_residual-in_err-switch.result c.from_residual-in_err-switch.ensures.1 in
    let same : c.drop-savepoint.new.self.0 ≡ c.connection-in_err-switch-1.given.0 = search rules in
    subst (λ h. ChangesWhole g.S.Store c.args.connection.now h c.from_residual-in_err-switch.result (SetsDevice c.args.name c.args.on c.args.is_new)) same
    (unwritten_changed g.S.Store c.args.connection.now c.drop-savepoint.new.self.0 c.in_ok-savepoint.savepoint c.switch.new.savepoint c.in_ok-savepoint.ensures.ok c.in_ok-savepoint.ensures.survives c.in_err-switch.field-0.0 c.in_err-switch.ensures.inside c.drop-savepoint.ensures.survives c.drop-savepoint.ensures.undone _ _ told.1 (SetsDevice c.args.name c.args.on c.args.is_new))

pub returns-clause-turns : goal.returns-clause-turns
returns-clause-turns g c =
    let same : c.commit.new.self.0 ≡ c.connection-2-1.given.0 = search rules in
    subst (λ h. ChangesWhole g.S.Store c.args.connection.now h c.commit.result (SetsDevice c.args.name c.args.on c.args.is_new)) same
    (ended_changed g.S.Store c.args.connection.now c.commit.new.self.0 c.in_ok-savepoint.savepoint c.switch.new.savepoint c.in_ok-savepoint.ensures.ok c.in_ok-savepoint.ensures.survives _ c.in_ok-switch.ensures.inside c.commit.ensures.survives c.commit.result c.commit.ensures.ok c.commit.ensures.err (SetsDevice c.args.name c.args.on c.args.is_new) c.in_ok-switch.ensures.turns)
