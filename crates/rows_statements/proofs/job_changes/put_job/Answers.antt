use Rattle.std.proofs.Common.{◌≡◌, Ok, subst, rules}
use Rattle.std.proofs.lemmas.Result.{err_from_is_err_and}
use Rattle.rows_statements.specs.NewDocuments.{first_of}
use Rattle.rows_statements.specs.Rows.{AddsJob}
use Rattle.rows_tables.specs.Calls.{ChangesWhole}
use Rattle.rows_tables.specs.declared.fault.TableFault.{TableFault}
use Rattle.rows_tables.proofs.SavepointChanges.{released_changed, unreleased_changed, unwritten_changed}
use Rattle.rows_statements.proofs.job_changes.put_job.Goals as goal

pub returns-in_err-add-clause-adds : goal.returns-in_err-add-clause-adds
returns-in_err-add-clause-adds g c =
    let told = err_from_is_err_and c.from_residual-in_err-add.result c.from_residual-in_err-add.ensures.1 in
    let same : c.drop-savepoint.new.self.0 ≡ c.connection-in_err-add-1.given.0 = search rules in
    subst (λ h. ChangesWhole g.S.Store c.args.connection.now h c.from_residual-in_err-add.result (AddsJob c.args.account c.args.job.now (first_of c.args.job.now.job c.args.document))) same
    (unwritten_changed g.S.Store c.args.connection.now c.drop-savepoint.new.self.0 c.in_ok-savepoint.savepoint c.add.new.savepoint c.in_ok-savepoint.ensures.ok c.in_ok-savepoint.ensures.survives c.in_err-add.field-0.0 c.in_err-add.ensures.inside c.drop-savepoint.ensures.survives c.drop-savepoint.ensures.undone _ _ told.1 (AddsJob c.args.account c.args.job.now (first_of c.args.job.now.job c.args.document)))

pub returns-in_err-commit-clause-adds : goal.returns-in_err-commit-clause-adds
returns-in_err-commit-clause-adds g c =
    let told = err_from_is_err_and c.from_residual-in_err-commit.result c.from_residual-in_err-commit.ensures.1 in
    let same : c.commit.new.self.0 ≡ c.connection-2-1.given.0 = search rules in
    subst (λ h. ChangesWhole g.S.Store c.args.connection.now h c.from_residual-in_err-commit.result (AddsJob c.args.account c.args.job.now (first_of c.args.job.now.job c.args.document))) same
    (unreleased_changed g.S.Store c.args.connection.now c.commit.new.self.0 c.in_ok-savepoint.savepoint c.add.new.savepoint c.in_ok-savepoint.ensures.ok c.in_ok-savepoint.ensures.survives _ c.in_ok-add.ensures.inside c.commit.ensures.survives c.in_err-commit.field-0.0 c.in_err-commit.ensures.err _ _ told.1 (AddsJob c.args.account c.args.job.now (first_of c.args.job.now.job c.args.document)) c.in_ok-add.ensures.adds)

pub returns-clause-adds : goal.returns-clause-adds
returns-clause-adds g c =
    let same : c.commit.new.self.0 ≡ c.connection-2-1.given.0 = search rules in
    subst (λ h. ChangesWhole g.S.Store c.args.connection.now h {T = Unit {0}} {E = TableFault} (Ok tt) (AddsJob c.args.account c.args.job.now (first_of c.args.job.now.job c.args.document))) same
    (released_changed g.S.Store c.args.connection.now c.commit.new.self.0 c.in_ok-savepoint.savepoint c.add.new.savepoint c.in_ok-savepoint.ensures.ok c.in_ok-savepoint.ensures.survives _ c.in_ok-add.ensures.inside c.commit.ensures.survives _ c.in_ok-commit.ensures.ok (AddsJob c.args.account c.args.job.now (first_of c.args.job.now.job c.args.document)) c.in_ok-add.ensures.adds)
