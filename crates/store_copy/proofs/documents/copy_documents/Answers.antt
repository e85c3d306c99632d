use Rattle.std.proofs.Common.{◌∙◌, ◌≡◌, Err, sym, ap}
use Rattle.sqlite.specs.Held.{state}
use Rattle.store_copy.proofs.ReadsKept.{on_ok_with}
use Rattle.store_copy.proofs.PartRows.{documents_copied}
use Rattle.std.proofs.lemmas.Result.{err_from_is_err_and}
use Rattle.rows_tables.specs.declared.fault.TableFault.TheVariants.{Damaged}
use Rattle.rows_tables.proofs.KeyedRows.{same_fault}
use Rattle.store_copy.proofs.documents.copy_documents.Goals as goal

pub returns-clause-copies : goal.returns-clause-copies
returns-clause-copies g c clean =
    let source = (state g.S.Store c.args.source.now).now in
    let before = (state g.T.Store c.args.savepoint.now.conn.now).now in
    let after = (state g.T.Store c.add_documents.new.savepoint.conn.now).now in
    on_ok_with c.add_documents.result (λ adds has. let added = adds has in (added.0, λ source_clean source_has. documents_copied c.args.account source c.args.job c.as_slice.result.now before after (λ room held. c.as_slice.ensures ∙ c.in_ok-documents.ensures.listed source_clean source_has room held) added.1))
    (c.add_documents.ensures.adds clean)

pub returns-in_err-documents-clause-damaged : goal.returns-in_err-documents-clause-damaged
returns-in_err-documents-clause-damaged g c clean has is_damaged read =
    let told = err_from_is_err_and c.from_residual.result c.from_residual.ensures.1 in
    let fault : c.in_err-documents.field-0.0 ≡ Damaged = sym told.2 ∙ same_fault (sym told.1 ∙ is_damaged) in
    c.in_err-documents.ensures.damaged clean has (ap Err fault) (read.documents c.args.job)

pub returns-clause-damaged : goal.returns-clause-damaged
returns-clause-damaged g c clean has is_damaged read =
    c.add_documents.ensures.undamaged is_damaged
