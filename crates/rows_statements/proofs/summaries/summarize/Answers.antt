use Rattle.std.proofs.Common.{◌≡◌, ◌∙◌, sym, ap, Err}
use Rattle.std.specs.FinMap.{values}
use Rattle.std.proofs.lemmas.Result.{err_from_is_err_and}
use Rattle.sqlite.specs.Held.{state}
use Rattle.rows_tables.specs.declared.fault.TableFault.TheVariants.{Damaged}
use Rattle.rows_tables.proofs.KeyedRows.{same_fault}
use Rattle.rows_statements.specs.SoundRows.{job_rows}
use Rattle.rows_statements.proofs.AccountRows.{rows_of_jobs}
use Rattle.rows_statements.proofs.SummaryWalk.{jobs_summed, units_within, jobs_unsound}
use Rattle.rows_statements.proofs.summaries.summarize.Goals as goal

pub returns-clause-told : goal.returns-clause-told
returns-clause-told g c clean has room held =
    let db = (state g.R.S.Store (g.R.Reads.held c.args.connection.now)).now in
    jobs_summed c.args.account c.args.month (job_rows db c.args.account) (values room.jobs) (rows_of_jobs db has c.args.account room held) c.walk_jobs.new.summed (c.in_ok-walk_jobs.ensures.walks clean has).all

pub returns-clause-bounds : goal.returns-clause-bounds
returns-clause-bounds g c = units_within c.args.month c.walk_jobs.new.summed c.in_ok-walk_jobs.ensures.gathers

pub returns-in_err-walk_jobs-clause-damaged : goal.returns-in_err-walk_jobs-clause-damaged
returns-in_err-walk_jobs-clause-damaged g c clean has is_damaged =
    let told = err_from_is_err_and c.from_residual.result c.from_residual.ensures.1 in
    let fault : c.in_err-walk_jobs.field-0.0 ≡ Damaged = sym told.2 ∙ same_fault (sym told.1 ∙ is_damaged) in
    jobs_unsound c.args.account c.args.month (job_rows (state g.R.S.Store (g.R.Reads.held c.args.connection.now)).now c.args.account) ((c.in_err-walk_jobs.ensures.walks clean has).damaged (ap Err fault))
