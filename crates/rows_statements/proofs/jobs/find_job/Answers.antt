use Rattle.std.proofs.Common.{◌≡◌, ◌∙◌, sym, ap, Err}
use Rattle.std.proofs.lemmas.Result.{err_from_is_err_and}
use Rattle.sqlite.specs.Held.{state}
use Rattle.rows_tables.specs.declared.fault.TableFault.TheVariants.{Damaged}
use Rattle.rows_tables.proofs.KeyedRows.{same_fault}
use Rattle.rows_statements.proofs.JobRows.{job_found, job_unsound}
use Rattle.rows_statements.proofs.jobs.find_job.Goals as goal

pub returns-in_ok-job_from-in-Some-clause-found : goal.returns-in_ok-job_from-in-Some-clause-found
returns-in_ok-job_from-in-Some-clause-found g c clean has =
    let shown = rw c.in-Some.is at (c.in_ok-row.ensures.gets clean has).found in
    job_found (state g.R.S.Store (g.R.Reads.held c.args.connection.now)).now has c.args.account c.args.number c.in-Some.row shown c.in_ok-job_from-in-Some.field-0 c.in_ok-job_from-in-Some.ensures.numbered c.in_ok-job_from-in-Some.ensures.read

pub returns-in_err-job_from-in-Some-clause-damaged : goal.returns-in_err-job_from-in-Some-clause-damaged
returns-in_err-job_from-in-Some-clause-damaged g c clean has is_damaged =
    let shown = rw c.in-Some.is at (c.in_ok-row.ensures.gets clean has).found in
    let told = err_from_is_err_and c.from_residual-in_err-job_from-in-Some.result c.from_residual-in_err-job_from-in-Some.ensures.1 in
    let fault : c.in_err-job_from-in-Some.field-0.0 ≡ Damaged = sym told.2 ∙ same_fault (sym told.1 ∙ is_damaged) in
    job_unsound (state g.R.S.Store (g.R.Reads.held c.args.connection.now)).now has c.args.account c.args.number c.in-Some.row shown (c.in_err-job_from-in-Some.ensures.damaged (ap Err fault))
