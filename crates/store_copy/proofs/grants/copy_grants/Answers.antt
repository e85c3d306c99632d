use Rattle.std.proofs.Common.{◌∙◌, ◌≡◌, Err, sym, ap}
use Rattle.sqlite.specs.Held.{state}
use Rattle.store_copy.proofs.PartRows.{grants_copied}
use Rattle.std.proofs.lemmas.Result.{err_from_is_err_and}
use Rattle.rows_tables.specs.declared.fault.TableFault.TheVariants.{Damaged}
use Rattle.rows_tables.proofs.KeyedRows.{same_fault}
use Rattle.store_copy.proofs.grants.copy_grants.Goals as goal

pub returns-clause-copies : goal.returns-clause-copies
returns-clause-copies g c clean has =
    let added = c.in_ok-set_grants.ensures.adds clean has in
    let source = (state g.S.Store c.args.source.now).now in
    let before = (state g.T.Store c.args.savepoint.now.conn.now).now in
    let after = (state g.T.Store c.set_grants.new.savepoint.conn.now).now in
    (added.0, λ source_clean source_has. grants_copied c.args.account source c.as_slice.result.now before after (λ room held. c.as_slice.ensures ∙ c.in_ok-grants.ensures.listed source_clean source_has room held) added.1)

pub returns-in_err-grants-clause-damaged : goal.returns-in_err-grants-clause-damaged
returns-in_err-grants-clause-damaged g c clean has is_damaged read =
    let told = err_from_is_err_and c.from_residual.result c.from_residual.ensures.1 in
    let fault : c.in_err-grants.field-0.0 ≡ Damaged = sym told.2 ∙ same_fault (sym told.1 ∙ is_damaged) in
    c.in_err-grants.ensures.damaged clean has (ap Err fault) read.by_month
