use Rattle.std.proofs.Common.{◌≡◌, ◌∙◌, sym, ap, subst, Err}
use Rattle.std.specs.List.{AllByRecursion}
use Rattle.std.proofs.lemmas.Result.{err_from_is_err_and}
use Rattle.sqlite.specs.Held.{state}
use Rattle.account_state.specs.Queues.{completed, first_jobs}
use Rattle.account_state.proofs.QueueOrders.{all_completed, all_first_jobs}
use Rattle.rows_tables.specs.declared.fault.TableFault.TheVariants.{Damaged}
use Rattle.rows_tables.proofs.KeyedRows.{same_fault}
use Rattle.rows_statements.specs.Queues.{by_falling_end, IsNumbered}
use Rattle.rows_statements.specs.SoundRows.{ended_rows}
use Rattle.rows_statements.proofs.QueueJobs.{all_numbered, jobs_listed, jobs_unsound}
use Rattle.rows_statements.proofs.queues.ended_jobs.Goals as goal

pub returns-in_err-walk_ended-clause-damaged : goal.returns-in_err-walk_ended-clause-damaged
returns-in_err-walk_ended-clause-damaged g c clean has is_damaged =
    let told = err_from_is_err_and c.from_residual.result c.from_residual.ensures.1 in
    let fault : c.in_err-walk_ended.field-0.0 ≡ Damaged = sym told.2 ∙ same_fault (sym told.1 ∙ is_damaged) in
    jobs_unsound (λ all. first_jobs c.args.limit (completed all)) (λ P all h. all_first_jobs P c.args.limit (completed all) (all_completed P all h)) by_falling_end c.args.limit (ended_rows (state g.R.S.Store (g.R.Reads.held c.args.connection.now)).now c.args.account) (state g.R.S.Store (g.R.Reads.held c.args.connection.now)).now c.args.account _
    ((c.in_err-walk_ended.ensures.walks clean has).damaged (ap Err fault))

pub returns-clause-listed : goal.returns-clause-listed
returns-clause-listed g c clean has room held =
    jobs_listed (λ all. first_jobs c.args.limit (completed all)) (λ P all h. all_first_jobs P c.args.limit (completed all) (all_completed P all h)) by_falling_end c.args.limit (ended_rows (state g.R.S.Store (g.R.Reads.held c.args.connection.now)).now c.args.account) (state g.R.S.Store (g.R.Reads.held c.args.connection.now)).now c.args.account
    room held _ c.walk_ended.new.jobs c.new.ensures.items (c.in_ok-walk_ended.ensures.walks clean has).all

pub returns-clause-numbered : goal.returns-clause-numbered
returns-clause-numbered g c =
    let gathered = c.in_ok-walk_ended.ensures.gathers in
    all_numbered _ c.walk_ended.new.jobs gathered.0 gathered.1 (subst (AllByRecursion IsNumbered) (sym c.new.ensures.items) tt)
