use Rattle.std.proofs.Common.{◌≡◌, ◌∙◌, sym, ap, Err}
use Rattle.std.specs.FinMap.{values}
use Rattle.std.proofs.lemmas.Result.{err_from_is_err_and}
use Rattle.sqlite.specs.Held.{state}
use Rattle.rows_tables.specs.declared.fault.TableFault.TheVariants.{Damaged}
use Rattle.rows_tables.proofs.KeyedRows.{same_fault}
use Rattle.rows_statements.specs.SoundRows.{job_rows}
use Rattle.rows_statements.proofs.AccountRows.{rows_of_jobs}
use Rattle.rows_statements.proofs.SummedJobs.{rows_of_these}
use Rattle.account_state.specs.declared.tally.Tally.{Tally}
use Rattle.rows_statements.proofs.TallyWalk.{tally_counted, walked_within, few_of, units_of, jobs_unsound}
use Rattle.rows_statements.proofs.tallies.tally_jobs.Goals as goal

pub returns-clause-counted : goal.returns-clause-counted
returns-clause-counted g c clean has room held =
    let db = (state g.R.S.Store (g.R.Reads.held c.args.connection.now)).now in
    tally_counted c.args.account (job_rows db c.args.account) (values room.jobs) (rows_of_jobs db has c.args.account room held) c.walk_jobs.new.tally (rw c.new-tally.ensures at (c.in_ok-walk_jobs.ensures.walks clean has).all)

pub returns-clause-reserved : goal.returns-clause-reserved
returns-clause-reserved g c clean has jobs held =
    let db = (state g.R.S.Store (g.R.Reads.held c.args.connection.now)).now in
    ap (λ (t : Tally). t.reserved) (tally_counted c.args.account (job_rows db c.args.account) (values jobs) (rows_of_these c.args.account db has jobs held) c.walk_jobs.new.tally (rw c.new-tally.ensures at (c.in_ok-walk_jobs.ensures.walks clean has).all))

pub returns-clause-charged : goal.returns-clause-charged
returns-clause-charged g c clean has jobs held =
    let db = (state g.R.S.Store (g.R.Reads.held c.args.connection.now)).now in
    ap (λ (t : Tally). t.charged) (tally_counted c.args.account (job_rows db c.args.account) (values jobs) (rows_of_these c.args.account db has jobs held) c.walk_jobs.new.tally (rw c.new-tally.ensures at (c.in_ok-walk_jobs.ensures.walks clean has).all))

pub returns-in_err-walk_jobs-clause-damaged : goal.returns-in_err-walk_jobs-clause-damaged
returns-in_err-walk_jobs-clause-damaged g c clean has is_damaged =
    let told = err_from_is_err_and c.from_residual.result c.from_residual.ensures.1 in
    let fault : c.in_err-walk_jobs.field-0.0 ≡ Damaged = sym told.2 ∙ same_fault (sym told.1 ∙ is_damaged) in
    jobs_unsound c.args.account (job_rows (state g.R.S.Store (g.R.Reads.held c.args.connection.now)).now c.args.account) (rw c.new-tally.ensures at ((c.in_err-walk_jobs.ensures.walks clean has).damaged (ap Err fault)))

pub returns-clause-few : goal.returns-clause-few
returns-clause-few g c = few_of c.walk_jobs.new.tally (walked_within _ c.walk_jobs.new.tally c.in_ok-walk_jobs.ensures.gathers c.new-tally.ensures)

pub returns-clause-bounds : goal.returns-clause-bounds
returns-clause-bounds g c = units_of c.walk_jobs.new.tally (walked_within _ c.walk_jobs.new.tally c.in_ok-walk_jobs.ensures.gathers c.new-tally.ensures)
