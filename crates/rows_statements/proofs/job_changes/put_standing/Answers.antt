use Rattle.std.proofs.Common.{◌≡◌, Ok, subst, rules}
use Rattle.std.proofs.lemmas.Result.{err_from_is_err_and}
use Rattle.rows_statements.specs.NewDocuments.{first_of}
use Rattle.rows_statements.specs.Rows.{Restands}
use Rattle.rows_tables.specs.Calls.{ChangesWhole}
use Rattle.rows_tables.specs.declared.fault.TableFault.{TableFault}
use Rattle.rows_tables.proofs.SavepointChanges.{released_changed, unreleased_changed, unwritten_changed}
use Rattle.rows_statements.proofs.job_changes.put_standing.Goals as goal

pub returns-in_err-restand-clause-restands : goal.returns-in_err-restand-clause-restands
returns-in_err-restand-clause-restands g c =
    let told = err_from_is_err_and c.from_residual-in_err-restand.result c.from_residual-in_err-restand.ensures.1 in
    let same : c.drop-savepoint.new.self.0 ≡ c.connection-in_err-restand-1.given.0 = search rules in
    subst (λ h. ChangesWhole g.S.Store c.args.connection.now h c.from_residual-in_err-restand.result (Restands c.args.account c.args.number c.args.standing.now (first_of c.args.number c.args.document))) same
    (unwritten_changed g.S.Store c.args.connection.now c.drop-savepoint.new.self.0 c.in_ok-savepoint.savepoint c.restand.new.savepoint c.in_ok-savepoint.ensures.ok c.in_ok-savepoint.ensures.survives c.in_err-restand.field-0.0 c.in_err-restand.ensures.inside c.drop-savepoint.ensures.survives c.drop-savepoint.ensures.undone _ _ told.1 (Restands c.args.account c.args.number c.args.standing.now (first_of c.args.number c.args.document)))

pub returns-in_err-commit-clause-restands : goal.returns-in_err-commit-clause-restands
returns-in_err-commit-clause-restands g c =
    let told = err_from_is_err_and c.from_residual-in_err-commit.result c.from_residual-in_err-commit.ensures.1 in
    let same : c.commit.new.self.0 ≡ c.connection-2-1.given.0 = search rules in
    subst (λ h. ChangesWhole g.S.Store c.args.connection.now h c.from_residual-in_err-commit.result (Restands c.args.account c.args.number c.args.standing.now (first_of c.args.number c.args.document))) same
    (unreleased_changed g.S.Store c.args.connection.now c.commit.new.self.0 c.in_ok-savepoint.savepoint c.restand.new.savepoint c.in_ok-savepoint.ensures.ok c.in_ok-savepoint.ensures.survives _ c.in_ok-restand.ensures.inside c.commit.ensures.survives c.in_err-commit.field-0.0 c.in_err-commit.ensures.err _ _ told.1 (Restands c.args.account c.args.number c.args.standing.now (first_of c.args.number c.args.document)) c.in_ok-restand.ensures.restands)

pub returns-clause-restands : goal.returns-clause-restands
returns-clause-restands g c =
    let same : c.commit.new.self.0 ≡ c.connection-2-1.given.0 = search rules in
    subst (λ h. ChangesWhole g.S.Store c.args.connection.now h {T = Unit {0}} {E = TableFault} (Ok tt) (Restands c.args.account c.args.number c.args.standing.now (first_of c.args.number c.args.document))) same
    (released_changed g.S.Store c.args.connection.now c.commit.new.self.0 c.in_ok-savepoint.savepoint c.restand.new.savepoint c.in_ok-savepoint.ensures.ok c.in_ok-savepoint.ensures.survives _ c.in_ok-restand.ensures.inside c.commit.ensures.survives _ c.in_ok-commit.ensures.ok (Restands c.args.account c.args.number c.args.standing.now (first_of c.args.number c.args.document)) c.in_ok-restand.ensures.restands)
