use Rattle.std.proofs.Common.{OnOk, [], ◌∷◌}
use Rattle.sqlite_value.specs.declared.value.Value.TheVariants.{Blob, Text}
use Rattle.sqlite.specs.State.{HasCleanDisk}
use Rattle.sqlite.specs.Held.{state}
use Rattle.account_rules.specs.Formats.{media_type}
use Rattle.account_rules.specs.declared.job.Document.{Document}
use Rattle.rows_tables.specs.Calls.{HasRun, IsTaken}
use Rattle.rows_tables.specs.Cells.{number, document_cells}
use Rattle.rows_tables.proofs.Inserts.{puts_row, was_taken}
use Rattle.rows_tables.proofs.KeyedTables.{document_in}
use Rattle.rows_tables.proofs.Savepoints.{then_changed}
use Rattle.rows_statements.proofs.DocumentLemmas.{add_text, add_terms, puts_document}
use Rattle.rows_statements.proofs.documents.add_document.Goals as goal

pub returns-clause-sets : goal.returns-clause-sets
returns-clause-sets g c clean =
    let old = state g.S.Store c.args.savepoint.now.conn.now in
    let new = state g.S.Store c.put.new.savepoint.conn.now in
    let it : Document = record { job = c.args.job; number = c.args.number_in_job; format = c.args.format; bytes = c.args.bytes.now } in
    let ran : HasCleanDisk new → OnOk c.put.result (HasRun add_text (document_cells c.args.account it) old new) = rw (c.bytes.ensures.value, c.number.ensures, c.number-2.ensures, c.format_text.ensures) at c.put.ensures.runs in
    then_changed c.put.result _ _
    (λ run has. puts_row (Text c.args.account ∷ number it.job ∷ number it.number ∷ []) (Text (media_type it.format) ∷ Blob it.bytes ∷ []) document_in add_text add_terms (puts_document c.args.account it) old new run.0 has run.1) (ran clean)

pub returns-clause-taken : goal.returns-clause-taken
returns-clause-taken g c clean has is_damaged =
    let old = state g.S.Store c.args.savepoint.now.conn.now in
    let new = state g.S.Store c.put.new.savepoint.conn.now in
    let it : Document = record { job = c.args.job; number = c.args.number_in_job; format = c.args.format; bytes = c.args.bytes.now } in
    let refused : IsTaken add_text (document_cells c.args.account it) old new = rw (c.bytes.ensures.value, c.number.ensures, c.number-2.ensures, c.format_text.ensures) at (c.put.ensures.taken clean is_damaged) in
    was_taken (Text c.args.account ∷ number it.job ∷ number it.number ∷ []) (Text (media_type it.format) ∷ Blob it.bytes ∷ []) document_in add_text add_terms (puts_document c.args.account it) old new has refused
