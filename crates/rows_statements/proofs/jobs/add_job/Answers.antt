use Rattle.std.proofs.Common.{OnOk, [], ◌∷◌}
use Rattle.sqlite_value.specs.declared.value.Value.TheVariants.{Blob, Text}
use Rattle.sqlite.specs.State.{HasCleanDisk}
use Rattle.sqlite.specs.Held.{state}
use Rattle.rows_tables.specs.Calls.{HasRun, IsTaken}
use Rattle.rows_tables.specs.Cells.{number, job_cells, standing_cells}
use Rattle.rows_tables.proofs.Inserts.{puts_row, was_taken}
use Rattle.rows_tables.proofs.KeyedTables.{job_in}
use Rattle.rows_tables.proofs.Savepoints.{then_changed}
use Rattle.rows_statements.proofs.FreeKeys.{put_where_free}
use Rattle.rows_statements.proofs.JobWrites.{add_text, add_terms, puts_job}
use Rattle.rows_statements.proofs.jobs.add_job.Goals as goal

pub returns-clause-sets : goal.returns-clause-sets
returns-clause-sets g c clean =
    let old = state g.S.Store c.args.savepoint.now.conn.now in
    let new = state g.S.Store c.put.new.savepoint.conn.now in
    let it = c.args.job.now in
    let ran : HasCleanDisk new → OnOk c.put.result (HasRun add_text (job_cells c.args.account it) old new) = rw (c.bytes.ensures.value, c.number.ensures, c.as_slice.ensures, c.as_slice-2.ensures, c.number_of_state.ensures, c.flag.ensures, c.flag-2.ensures, c.number-2.ensures, c.number-3.ensures, c.number-4.ensures, c.number-5.ensures, c.number-6.ensures, c.number-7.ensures, c.device_text.ensures, c.number-8.ensures, c.moment.ensures, c.moment-2.ensures) at c.put.ensures.runs in
    then_changed c.put.result _ _
    (λ run has. puts_row (Text c.args.account ∷ number it.job ∷ []) (Blob it.name ∷ Blob it.password ∷ standing_cells it.standing) job_in add_text add_terms (puts_job c.args.account it) old new run.0 has run.1) (ran clean)

pub returns-clause-free : goal.returns-clause-free
returns-clause-free g c clean has =
    let old = state g.S.Store c.args.savepoint.now.conn.now in
    let new = state g.S.Store c.put.new.savepoint.conn.now in
    let it = c.args.job.now in
    let ran : HasCleanDisk new → OnOk c.put.result (HasRun add_text (job_cells c.args.account it) old new) = rw (c.bytes.ensures.value, c.number.ensures, c.as_slice.ensures, c.as_slice-2.ensures, c.number_of_state.ensures, c.flag.ensures, c.flag-2.ensures, c.number-2.ensures, c.number-3.ensures, c.number-4.ensures, c.number-5.ensures, c.number-6.ensures, c.number-7.ensures, c.device_text.ensures, c.number-8.ensures, c.moment.ensures, c.moment-2.ensures) at c.put.ensures.runs in
    then_changed c.put.result _ _
    (λ run. put_where_free (Text c.args.account ∷ number it.job ∷ []) (Blob it.name ∷ Blob it.password ∷ standing_cells it.standing) job_in add_text add_terms (puts_job c.args.account it) old new run.0 has run.1) (ran clean)

pub returns-clause-taken : goal.returns-clause-taken
returns-clause-taken g c clean has is_damaged =
    let old = state g.S.Store c.args.savepoint.now.conn.now in
    let new = state g.S.Store c.put.new.savepoint.conn.now in
    let it = c.args.job.now in
    let refused : IsTaken add_text (job_cells c.args.account it) old new = rw (c.bytes.ensures.value, c.number.ensures, c.as_slice.ensures, c.as_slice-2.ensures, c.number_of_state.ensures, c.flag.ensures, c.flag-2.ensures, c.number-2.ensures, c.number-3.ensures, c.number-4.ensures, c.number-5.ensures, c.number-6.ensures, c.number-7.ensures, c.device_text.ensures, c.number-8.ensures, c.moment.ensures, c.moment-2.ensures) at (c.put.ensures.taken clean is_damaged) in
    was_taken (Text c.args.account ∷ number it.job ∷ []) (Blob it.name ∷ Blob it.password ∷ standing_cells it.standing) job_in add_text add_terms (puts_job c.args.account it) old new has refused
