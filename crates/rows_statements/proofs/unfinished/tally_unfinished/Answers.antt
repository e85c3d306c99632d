use Rattle.std.proofs.Common.{◌≡◌, ◌∙◌, sym, ap, Err}
use Rattle.std.specs.FinMap.{values}
use Rattle.std.proofs.lemmas.Result.{err_from_is_err_and}
use Rattle.sqlite.specs.Held.{state}
use Rattle.rows_tables.specs.declared.fault.TableFault.TheVariants.{Damaged}
use Rattle.rows_tables.proofs.KeyedRows.{same_fault}
use Rattle.rows_statements.specs.SoundRows.{unfinished_rows}
use Rattle.account_state.specs.declared.tally.Tally.{Tally}
use Rattle.account_state.specs.Queues.{not_completed}
use Rattle.rows_statements.proofs.QueueRows.{unfinished_kept}
use Rattle.rows_statements.proofs.QueuedWalk.{queued_count, queued_processing}
use Rattle.rows_statements.proofs.TallyWalk.{tally_counted, walked_within, few_of, units_of, jobs_unsound}
use Rattle.rows_statements.proofs.unfinished.tally_unfinished.Goals as goal

pub returns-clause-counted : goal.returns-clause-counted
returns-clause-counted g c clean has room held =
    let db = (state g.R.S.Store (g.R.Reads.held c.args.connection.now)).now in
    tally_counted c.args.account (unfinished_rows db c.args.account) (not_completed (values room.jobs)) (unfinished_kept db has c.args.account room held) c.walk_queued.new.tally (rw c.new-tally.ensures at (c.in_ok-walk_queued.ensures.walks clean has).all)

pub returns-in_err-walk_queued-clause-damaged : goal.returns-in_err-walk_queued-clause-damaged
returns-in_err-walk_queued-clause-damaged g c clean has is_damaged =
    let told = err_from_is_err_and c.from_residual.result c.from_residual.ensures.1 in
    let fault : c.in_err-walk_queued.field-0.0 ≡ Damaged = sym told.2 ∙ same_fault (sym told.1 ∙ is_damaged) in
    jobs_unsound c.args.account (unfinished_rows (state g.R.S.Store (g.R.Reads.held c.args.connection.now)).now c.args.account) (rw c.new-tally.ensures at ((c.in_err-walk_queued.ensures.walks clean has).damaged (ap Err fault)))

pub returns-clause-few : goal.returns-clause-few
returns-clause-few g c = few_of c.walk_queued.new.tally (walked_within _ c.walk_queued.new.tally c.in_ok-walk_queued.ensures.gathers c.new-tally.ensures)

pub returns-clause-bounds : goal.returns-clause-bounds
returns-clause-bounds g c = units_of c.walk_queued.new.tally (walked_within _ c.walk_queued.new.tally c.in_ok-walk_queued.ensures.gathers c.new-tally.ensures)

pub returns-clause-queue : goal.returns-clause-queue
returns-clause-queue g c clean has room held =
    let is = returns-clause-counted g c clean has room held in (
      ap (λ (t : Tally). t.unfinished) is ∙ queued_count (values room.jobs),
      ap (λ (t : Tally). t.is_processing) is ∙ queued_processing (values room.jobs),
    )
