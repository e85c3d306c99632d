use Rattle.std.proofs.Common.{◌≡◌, ◌∙◌, ℤ, Ok, Err, None, OnOk, sym, ap, arith}
use Rattle.std.proofs.lemmas.Result.{err_from_is_err_and}
use Rattle.sqlite.specs.Effect.{Database}
use Rattle.sqlite.specs.Held.{state}
use Rattle.rows_tables.specs.Accounts.{account_at, document_at, grant_at, job_at, HoldsNothing}
use Rattle.rows_tables.specs.declared.fault.TableFault.TheVariants.{Damaged}
use Rattle.rows_tables.proofs.KeyedRows.{same_fault}
use Rattle.rows_statements.proofs.ReadsAgain.{reads_again}
use Rattle.rows_checks.proofs.ReadsBefore.{on_ok_with, told_before}
use Rattle.rows_checks.proofs.account.check_nothing.Goals as goal

pub returns-in_err-check_no_job-clause-damaged : goal.returns-in_err-check_no_job-clause-damaged
returns-in_err-check_no_job-clause-damaged g c clean has is_damaged held =
    let told = err_from_is_err_and c.from_residual.result c.from_residual.ensures.1 in
    let fault : c.in_err-check_no_job.field-0.0 ≡ Damaged = sym told.2 ∙ same_fault (sym told.1 ∙ is_damaged) in
    c.in_err-check_no_job.ensures.damaged clean has (ap Err fault) held.no_job

pub returns-in_err-check_no_document-clause-damaged : goal.returns-in_err-check_no_document-clause-damaged
returns-in_err-check_no_document-clause-damaged g c clean has is_damaged held =
    let told = err_from_is_err_and c.from_residual-in_err-check_no_document.result c.from_residual-in_err-check_no_document.ensures.1 in
    let fault : c.in_err-check_no_document.field-0.0 ≡ Damaged = sym told.2 ∙ same_fault (sym told.1 ∙ is_damaged) in
    told_before g.R.S.Store (g.R.Reads.held c.args.connection.now) (g.R.Reads.held c.check_no_job.new.connection) (g.R.Reads.held c.check_no_document.new.connection) tt c.in_ok-check_no_job.ensures.reads c.in_err-check_no_document.ensures.reads.keeps
    (λ (d : Database). ((y z : ℤ) → document_at d c.args.account y z ≡ None) → ⊥) (λ clean has. c.in_err-check_no_document.ensures.damaged clean has (ap Err fault)) clean has held.no_document

pub returns-clause-damaged : goal.returns-clause-damaged
returns-clause-damaged g c clean has is_damaged held =
    let first = reads_again g.R.S.Store (g.R.Reads.held c.args.connection.now) (g.R.Reads.held c.check_no_job.new.connection) (g.R.Reads.held c.check_no_document.new.connection) tt (Ok tt) c.in_ok-check_no_job.ensures.reads c.in_ok-check_no_document.ensures.reads in
    told_before g.R.S.Store (g.R.Reads.held c.args.connection.now) (g.R.Reads.held c.check_no_document.new.connection) (g.R.Reads.held c.check_no_grant.new.connection) tt first c.check_no_grant.ensures.reads.keeps
    (λ (d : Database). ((z : ℤ) → grant_at d c.args.account z ≡ None) → ⊥) (λ clean has. c.check_no_grant.ensures.damaged clean has is_damaged) clean has held.no_grant

pub returns-clause-nothing : goal.returns-clause-nothing
returns-clause-nothing g c clean has =
    let old = (g.R.Reads.held c.args.connection.now) in
    let db = (state g.R.S.Store old).now in
    let first = reads_again g.R.S.Store old (g.R.Reads.held c.check_no_job.new.connection) (g.R.Reads.held c.check_no_document.new.connection) tt (Ok tt) c.in_ok-check_no_job.ensures.reads c.in_ok-check_no_document.ensures.reads in
    let jobs : (z : ℤ) → job_at db c.args.account z ≡ None = c.in_ok-check_no_job.ensures.none (omega (arith, c.in_ok-check_no_document.ensures.reads.keeps.clean, c.check_no_grant.ensures.reads.keeps.clean, clean)) has in
    let documents : (y z : ℤ) → document_at db c.args.account y z ≡ None = told_before g.R.S.Store old (g.R.Reads.held c.check_no_job.new.connection) (g.R.Reads.held c.check_no_document.new.connection) tt c.in_ok-check_no_job.ensures.reads c.in_ok-check_no_document.ensures.reads.keeps
    (λ (d : Database). (y z : ℤ) → document_at d c.args.account y z ≡ None) c.in_ok-check_no_document.ensures.none (omega (arith, c.check_no_grant.ensures.reads.keeps.clean, clean)) has in
    let grants = told_before g.R.S.Store old (g.R.Reads.held c.check_no_document.new.connection) (g.R.Reads.held c.check_no_grant.new.connection) tt first c.check_no_grant.ensures.reads.keeps
    (λ (d : Database). OnOk c.check_no_grant.result ((z : ℤ) → grant_at d c.args.account z ≡ None)) c.check_no_grant.ensures.none clean has in
    on_ok_with {Q = account_at db c.args.account ≡ None → HoldsNothing db c.args.account} c.check_no_grant.result (λ grants none. record { no_account = none; no_job = jobs; no_document = documents; no_grant = grants }) grants
