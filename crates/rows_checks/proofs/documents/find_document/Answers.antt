use Rattle.std.proofs.Common.{◌≡◌, ◌∙◌, sym, ap, Err}
use Rattle.std.proofs.lemmas.Result.{err_from_is_err_and}
use Rattle.sqlite.specs.Held.{state}
use Rattle.rows_tables.specs.declared.fault.TableFault.TheVariants.{Damaged}
use Rattle.rows_tables.proofs.KeyedRows.{same_fault}
use Rattle.rows_checks.proofs.CheckedDocuments.{one_found, one_unsound}
use Rattle.rows_checks.proofs.documents.find_document.Goals as goal

pub returns-in_ok-document_told-in-Some-clause-found : goal.returns-in_ok-document_told-in-Some-clause-found
returns-in_ok-document_told-in-Some-clause-found g c clean has =
    let shown = rw c.in-Some.is at (c.in_ok-row.ensures.gets clean has).found in
    one_found (state g.R.S.Store (g.R.Reads.held c.args.connection.now)).now has c.args.account c.args.job c.args.document c.in-Some.row shown c.in_ok-document_told-in-Some.field-0 c.in_ok-document_told-in-Some.ensures.in_range c.in_ok-document_told-in-Some.ensures.read

pub returns-in_err-document_told-in-Some-clause-damaged : goal.returns-in_err-document_told-in-Some-clause-damaged
returns-in_err-document_told-in-Some-clause-damaged g c clean has is_damaged =
    let shown = rw c.in-Some.is at (c.in_ok-row.ensures.gets clean has).found in
    let told = err_from_is_err_and c.from_residual-in_err-document_told-in-Some.result c.from_residual-in_err-document_told-in-Some.ensures.1 in
    let fault : c.in_err-document_told-in-Some.field-0.0 ≡ Damaged = sym told.2 ∙ same_fault (sym told.1 ∙ is_damaged) in
    one_unsound (state g.R.S.Store (g.R.Reads.held c.args.connection.now)).now has c.args.account c.args.job c.args.document c.in-Some.row shown (c.in_err-document_told-in-Some.ensures.damaged (ap Err fault))
