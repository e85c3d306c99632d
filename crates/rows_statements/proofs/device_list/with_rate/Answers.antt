use Rattle.std.proofs.Common.{◌≡◌, ◌∙◌, sym, ap, Err, Some}
use Rattle.std.proofs.lemmas.Result.{err_from_is_err_and}
use Rattle.rows_tables.specs.declared.fault.TableFault.TheVariants.{Damaged}
use Rattle.rows_tables.proofs.KeyedRows.{same_fault}
use Rattle.rows_statements.proofs.device_list.with_rate.Goals as goal

pub returns-in_err-rate-clause-damaged : goal.returns-in_err-rate-clause-damaged
returns-in_err-rate-clause-damaged g c clean has is_damaged units in_range at =
    let told = err_from_is_err_and c.from_residual.result c.from_residual.ensures.1 in
    let fault : c.in_err-rate.field-0.0 ≡ Damaged = sym told.2 ∙ same_fault (sym told.1 ∙ is_damaged) in
    c.in_err-rate.ensures.damaged clean has (ap Err fault) (Some units, in_range, at)
