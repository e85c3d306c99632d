use Rattle.std.proofs.Common.{◌≡◌, ◌∙◌, sym, ap, Err}
use Rattle.std.proofs.lemmas.Result.{err_from_is_err_and}
use Rattle.rows_tables.specs.declared.fault.TableFault.TheVariants.{Damaged}
use Rattle.rows_tables.proofs.KeyedRows.{same_fault}
use Rattle.rows_statements.proofs.summaries.summary_on.Goals as goal

pub returns-in_err-further-clause-damaged : goal.returns-in_err-further-clause-damaged
returns-in_err-further-clause-damaged c is_damaged job tells =
    let told = err_from_is_err_and c.from_residual-in_err-further.result c.from_residual-in_err-further.ensures.1 in
    let fault : c.in_err-further.field-0.0 ≡ Damaged = sym told.2 ∙ same_fault (sym told.1 ∙ is_damaged) in
    c.in_err-further.ensures.damaged (ap Err fault) tells.charged tells.further tells.told.beyond
