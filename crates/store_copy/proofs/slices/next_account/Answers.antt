use Rattle.std.proofs.Common.{◌≡◌, ◌∙◌, slice_get, sym, ap, Err}
use Rattle.std.proofs.lemmas.Result.{err_from_is_err_and}
use Rattle.sqlite.specs.Held.{state}
use Rattle.rows_tables.specs.declared.fault.TableFault.TheVariants.{Damaged}
use Rattle.rows_tables.proofs.KeyedRows.{same_fault}
use Rattle.store_copy.proofs.NextNames.{comes_next}
use Rattle.store_copy.proofs.slices.next_account.Goals as goal

pub returns-clause-next : goal.returns-clause-next
returns-clause-next g c clean has names are named =
    let listed = c.in_ok-page.ensures.listed clean has names are in
    comes_next c.args.last (state g.S.Store c.args.source.now).now names are named _ (c.copied.ensures ∙ c.first.ensures.value ∙ ap (λ l. slice_get l 0) (c.as_slice.ensures ∙ listed))

pub returns-in_err-page-clause-damaged : goal.returns-in_err-page-clause-damaged
returns-in_err-page-clause-damaged g c clean has is_damaged named =
    let told = err_from_is_err_and c.from_residual.result c.from_residual.ensures.1 in
    let fault : c.in_err-page.field-0.0 ≡ Damaged = sym told.2 ∙ same_fault (sym told.1 ∙ is_damaged) in
    c.in_err-page.ensures.damaged clean has (ap Err fault) named
