use Rattle.std.proofs.Common.{◌≡◌, ◌∙◌, sym, ap, Err}
use Rattle.std.proofs.lemmas.Result.{err_from_is_err_and}
use Rattle.sqlite.specs.Held.{state}
use Rattle.rows_tables.specs.declared.fault.TableFault.TheVariants.{Damaged}
use Rattle.rows_tables.proofs.KeyedRows.{same_fault}
use Rattle.rows_statements.proofs.JobRows.{job_read}
use Rattle.rows_checks.proofs.documents.has_job_with.Goals as goal

pub returns-in_err-it-clause-damaged : goal.returns-in_err-it-clause-damaged
returns-in_err-it-clause-damaged g c clean has is_damaged sound =
    let told = err_from_is_err_and c.from_residual.result c.from_residual.ensures.1 in
    let fault : c.in_err-it.field-0.0 ≡ Damaged = sym told.2 ∙ same_fault (sym told.1 ∙ is_damaged) in
    c.in_err-it.ensures.damaged clean has (ap Err fault) (job_read (state g.R.S.Store (g.R.Reads.held c.args.connection.now)).now c.args.account c.args.job sound)
