use Rattle.std.proofs.Common.{◌≡◌, ◌∙◌, Some, sym, ap, Err}
use Rattle.std.proofs.lemmas.Result.{err_from_is_err_and}
use Rattle.rows_tables.specs.declared.fault.TableFault.TheVariants.{Damaged}
use Rattle.rows_tables.proofs.KeyedRows.{same_fault}
use Rattle.rows_checks.proofs.documents.check_there.Goals as goal

pub returns-in_err-find_document-clause-damaged : goal.returns-in_err-find_document-clause-damaged
returns-in_err-find_document-clause-damaged g c clean has is_damaged there =
    let told = err_from_is_err_and c.from_residual.result c.from_residual.ensures.1 in
    let fault : c.in_err-find_document.field-0.0 ≡ Damaged = sym told.2 ∙ same_fault (sym told.1 ∙ is_damaged) in
    c.in_err-find_document.ensures.damaged clean has (ap Err fault) (Some there.0, there.1, there.2)
