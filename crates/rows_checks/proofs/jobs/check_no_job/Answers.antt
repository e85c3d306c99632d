use Rattle.std.proofs.Common.{◌≡◌, ℤ, None}
use Rattle.sqlite.specs.Held.{state}
use Rattle.rows_tables.specs.Accounts.{job_at}
use Rattle.rows_checks.proofs.NoKeys.{job_there, no_jobs_there}
use Rattle.rows_checks.proofs.ReadsBefore.{on_ok_with}
use Rattle.rows_checks.proofs.jobs.check_no_job.Goals as goal

pub returns-clause-none : goal.returns-clause-none
returns-clause-none g c clean has =
    let db = (state g.R.S.Store (g.R.Reads.held c.args.connection.now)).now in
    on_ok_with {Q = (z : ℤ) → job_at db c.args.account z ≡ None} c.walk_jobs.result (no_jobs_there db has c.args.account _ _) (c.walk_jobs.ensures.walks clean has).all

pub returns-clause-damaged : goal.returns-clause-damaged
returns-clause-damaged g c clean has is_damaged =
    let db = (state g.R.S.Store (g.R.Reads.held c.args.connection.now)).now in
    job_there db has c.args.account _ _ _ ((c.walk_jobs.ensures.walks clean has).damaged is_damaged)
