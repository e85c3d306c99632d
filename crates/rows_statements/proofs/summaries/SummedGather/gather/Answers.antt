use Rattle.std.proofs.Common.{◌≡◌, ◌∙◌, sym, ap, Err}
use Rattle.std.proofs.lemmas.Result.{err_from_is_err_and}
use Rattle.rows_tables.specs.declared.fault.TableFault.TheVariants.{Damaged}
use Rattle.rows_tables.proofs.KeyedRows.{same_fault}
use Rattle.rows_statements.proofs.summaries.SummedGather.gather.Goals as goal

pub returns-in_err-summary_on-clause-refused : goal.returns-in_err-summary_on-clause-refused
returns-in_err-summary_on-clause-refused c is_damaged job tells fits =
    let told = err_from_is_err_and c.from_residual.result c.from_residual.ensures.1 in
    let fault : c.in_err-summary_on.field-0.0 ≡ Damaged = sym told.2 ∙ same_fault (sym told.1 ∙ is_damaged) in
    c.in_err-summary_on.ensures.damaged (ap Err fault) job tells
