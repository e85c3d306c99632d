use Rattle.std.proofs.Common.{◌≡◌, subst, rules}
use Rattle.std.proofs.lemmas.Result.{err_from_is_err_and}
use Rattle.rows_tables.specs.Calls.{AllOrNothing}
use Rattle.rows_tables.proofs.SavepointChanges.{ended_whole, unwritten_whole}
use Rattle.rows_tables.proofs.opening.add_index.Goals as goal

pub returns-in_err-make_job_ended_index-clause-whole : goal.returns-in_err-make_job_ended_index-clause-whole
returns-in_err-make_job_ended_index-clause-whole g c =
    let told = err_from_is_err_and c.from_residual-in_err-make_job_ended_index.result c.from_residual-in_err-make_job_ended_index.ensures.1 in
    let same : c.drop-savepoint.new.self.0 ≡ c.connection-in_err-make_job_ended_index-1.given.0 = search rules in
    subst (λ h. AllOrNothing g.S.Store c.args.connection.now h c.from_residual-in_err-make_job_ended_index.result) same
    (unwritten_whole g.S.Store c.args.connection.now c.drop-savepoint.new.self.0 c.in_ok-savepoint.savepoint c.make_job_ended_index.new.savepoint c.in_ok-savepoint.ensures.ok c.in_ok-savepoint.ensures.survives c.in_err-make_job_ended_index.field-0.0 c.in_err-make_job_ended_index.ensures.inside c.drop-savepoint.ensures.survives c.drop-savepoint.ensures.undone _ _ told.1)

pub returns-clause-whole : goal.returns-clause-whole
returns-clause-whole g c =
    let same : c.commit.new.self.0 ≡ c.connection-2-1.given.0 = search rules in
    subst (λ h. AllOrNothing g.S.Store c.args.connection.now h c.commit.result) same
    (ended_whole g.S.Store c.args.connection.now c.commit.new.self.0 c.in_ok-savepoint.savepoint c.make_job_ended_index.new.savepoint c.in_ok-savepoint.ensures.ok c.in_ok-savepoint.ensures.survives _ c.in_ok-make_job_ended_index.ensures.inside c.commit.ensures.survives c.commit.result c.commit.ensures.ok c.commit.ensures.err)
