use Rattle.std.proofs.Common.{OnOk, [], ◌∷◌}
use Rattle.sqlite_value.specs.declared.value.Value.TheVariants.{Text}
use Rattle.sqlite.specs.State.{HasCleanDisk}
use Rattle.sqlite.specs.Held.{state}
use Rattle.rows_tables.specs.Calls.{HasRun}
use Rattle.rows_tables.specs.Cells.{number, account_cells}
use Rattle.rows_tables.proofs.KeyedTables.{account_in}
use Rattle.rows_tables.proofs.Savepoints.{then_changed}
use Rattle.rows_tables.proofs.Updates.{updates_row}
use Rattle.rows_statements.proofs.AccountLemmas.{next_text, next_tests, next_terms, updates_next, next_kept, next_keyed}
use Rattle.rows_statements.proofs.accounts.set_next_job.Goals as goal

pub returns-clause-sets : goal.returns-clause-sets
returns-clause-sets g c clean =
    let old = state g.S.Store c.args.savepoint.now.conn.now in
    let new = state g.S.Store c.write.new.savepoint.conn.now in
    let given = Text c.args.account ∷ number c.args.next_job ∷ [] in
    let ran : HasCleanDisk new → OnOk c.write.result (HasRun next_text given old new) = rw (c.bytes.ensures.value, c.number.ensures) at c.write.ensures.runs in
    then_changed c.write.result _ _
    (λ run has.
    let left = updates_row (Text c.args.account ∷ []) account_in next_text next_tests next_terms given (updates_next c.args.account c.args.next_job) old new run.0 has run.1 in
    (left.0, λ it there. left.1 (account_cells c.args.account it) there (next_kept c.args.account it c.args.next_job) (next_keyed c.args.account (record it { next_job = c.args.next_job }))))
    (ran clean)
