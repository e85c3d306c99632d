use Rattle.std.proofs.Common.{◌∙◌, ◌≡◌, Err, sym, ap}
use Rattle.sqlite.specs.Held.{state}
use Rattle.store_copy.proofs.WholeDevices.{devices_copied}
use Rattle.std.proofs.lemmas.Result.{err_from_is_err_and}
use Rattle.rows_tables.specs.declared.fault.TableFault.TheVariants.{Damaged}
use Rattle.rows_tables.proofs.KeyedRows.{same_fault}
use Rattle.store_copy.proofs.devices.copy_devices.Goals as goal

pub returns-clause-copies : goal.returns-clause-copies
returns-clause-copies g c clean has =
    let added = c.in_ok-add_devices.ensures.adds clean has in
    let source = (state g.S.Store c.args.source.now).now in
    let before = (state g.T.Store c.args.savepoint.now.conn.now).now in
    let after = (state g.T.Store c.add_devices.new.savepoint.conn.now).now in
    (added.0, λ source_clean source_has. devices_copied source c.as_slice.result.now before after (λ map held. c.as_slice.ensures ∙ c.in_ok-devices.ensures.listed source_clean source_has map held) added.1)

pub returns-in_err-devices-clause-damaged : goal.returns-in_err-devices-clause-damaged
returns-in_err-devices-clause-damaged g c clean has is_damaged listed =
    let told = err_from_is_err_and c.from_residual.result c.from_residual.ensures.1 in
    let fault : c.in_err-devices.field-0.0 ≡ Damaged = sym told.2 ∙ same_fault (sym told.1 ∙ is_damaged) in
    c.in_err-devices.ensures.damaged clean has (ap Err fault) listed
