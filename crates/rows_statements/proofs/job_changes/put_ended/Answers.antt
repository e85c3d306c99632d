use Rattle.std.proofs.Common.{◌≡◌, subst, rules}
use Rattle.std.proofs.lemmas.Result.{err_from_is_err_and}
use Rattle.rows_statements.specs.Rows.{EndsJob}
use Rattle.rows_tables.specs.Calls.{ChangesWhole}
use Rattle.rows_tables.proofs.SavepointChanges.{ended_changed, unwritten_changed}
use Rattle.rows_statements.proofs.job_changes.put_ended.Goals as goal

pub returns-in_err-end : goal.returns-in_err-end
returns-in_err-end g c =
    let told = err_from_is_err_and c.from_residual-in_err-end.result c.from_residual-in_err-end.ensures.1 in
    let same : c.drop-savepoint.new.self.0 ≡ c.connection-in_err-end-1.given.0 = search rules in
    record {
      ends = subst (λ h. ChangesWhole g.S.Store c.args.connection.now h c.from_residual-in_err-end.result (EndsJob c.args.account c.args.number c.args.standing.now)) same
          (unwritten_changed g.S.Store c.args.connection.now c.drop-savepoint.new.self.0 c.in_ok-savepoint.savepoint c.end.new.savepoint c.in_ok-savepoint.ensures.ok c.in_ok-savepoint.ensures.survives c.in_err-end.field-0.0 c.in_err-end.ensures.inside c.drop-savepoint.ensures.survives c.drop-savepoint.ensures.undone _ _ told.1 (EndsJob c.args.account c.args.number c.args.standing.now));
    }

pub returns : goal.returns
returns g c =
    let same : c.commit.new.self.0 ≡ c.connection-2-1.given.0 = search rules in
    record {
      ends = subst (λ h. ChangesWhole g.S.Store c.args.connection.now h c.commit.result (EndsJob c.args.account c.args.number c.args.standing.now)) same
          (ended_changed g.S.Store c.args.connection.now c.commit.new.self.0 c.in_ok-savepoint.savepoint c.end.new.savepoint c.in_ok-savepoint.ensures.ok c.in_ok-savepoint.ensures.survives _ c.in_ok-end.ensures.inside c.commit.ensures.survives c.commit.result c.commit.ensures.ok c.commit.ensures.err (EndsJob c.args.account c.args.number c.args.standing.now) c.in_ok-end.ensures.ends);
    }
