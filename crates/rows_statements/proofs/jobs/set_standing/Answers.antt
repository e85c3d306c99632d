use Rattle.std.proofs.Common.{OnOk, [], ◌∷◌}
use Rattle.sqlite_value.specs.declared.value.Value.TheVariants.{Text}
use Rattle.sqlite.specs.State.{HasCleanDisk}
use Rattle.sqlite.specs.Held.{state}
use Rattle.rows_tables.specs.Calls.{HasRun}
use Rattle.rows_tables.specs.Cells.{number, job_cells}
use Rattle.rows_tables.proofs.KeyedTables.{job_in}
use Rattle.rows_tables.proofs.Savepoints.{then_changed}
use Rattle.rows_tables.proofs.Updates.{updates_row}
use Rattle.rows_statements.proofs.JobWrites.{standing_text, standing_tests, standing_terms, standing_given, updates_standing, job_kept, standing_keyed}
use Rattle.rows_statements.proofs.jobs.set_standing.Goals as goal

pub returns-clause-sets : goal.returns-clause-sets
returns-clause-sets g c clean =
    let old = state g.S.Store c.args.savepoint.now.conn.now in
    let new = state g.S.Store c.write.new.savepoint.conn.now in
    let standing = c.args.standing.now in
    let given = standing_given c.args.account c.args.job standing in
    let ran : HasCleanDisk new → OnOk c.write.result (HasRun standing_text given old new) = rw (c.bytes.ensures.value, c.number.ensures, c.number_of_state.ensures, c.flag.ensures, c.flag-2.ensures, c.number-2.ensures, c.number-3.ensures, c.number-4.ensures, c.number-5.ensures, c.number-6.ensures, c.number-7.ensures, c.device_text.ensures, c.number-8.ensures, c.moment.ensures, c.moment-2.ensures) at c.write.ensures.runs in
    then_changed c.write.result _ _
    (λ run has.
    let left = updates_row (Text c.args.account ∷ number c.args.job ∷ []) job_in standing_text standing_tests standing_terms given (updates_standing c.args.account c.args.job standing) old new run.0 has run.1 in
    (left.0, λ it there. left.1 (job_cells c.args.account it) there (job_kept c.args.account (record it { standing = standing })) (standing_keyed old.now has c.args.account c.args.job it there standing)))
    (ran clean)
