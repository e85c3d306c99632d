use Rattle.std.proofs.Common.{◌≡◌, ◌∙◌, sym, ap, refl, Err, false}
use Rattle.std.proofs.lemmas.Result.{err_from_is_err_and}
use Rattle.sqlite.specs.Held.{state}
use Rattle.rows_statements.specs.declared.devices.AnyOn.{AnyOn}
use Rattle.rows_tables.specs.declared.fault.TableFault.TheVariants.{Damaged}
use Rattle.rows_tables.proofs.KeyedRows.{same_fault}
use Rattle.rows_tables.proofs.DeviceRows.{tells_some_on}
use Rattle.rows_statements.proofs.DeviceWalk.{on_exactly, flags_unsound}
use Rattle.rows_statements.proofs.devices.is_device_on.Goals as goal

pub returns-in_err-walk_devices-clause-damaged : goal.returns-in_err-walk_devices-clause-damaged
returns-in_err-walk_devices-clause-damaged g c clean has is_damaged =
    let told = err_from_is_err_and c.from_residual.result c.from_residual.ensures.1 in
    let fault : c.in_err-walk_devices.field-0.0 ≡ Damaged = sym told.2 ∙ same_fault (sym told.1 ∙ is_damaged) in
    flags_unsound (state g.R.S.Store (g.R.Reads.held c.args.connection.now)).now has _ _ ((c.in_err-walk_devices.ensures.walks clean has).damaged (ap Err fault))

pub returns-clause-found : goal.returns-clause-found
returns-clause-found g c clean has =
    on_exactly (state g.R.S.Store (g.R.Reads.held c.args.connection.now)).now has (λ (found : AnyOn). found.is_on) (record { is_on = false }) c.walk_devices.new.found refl (c.in_ok-walk_devices.ensures.walks clean has).all

pub returns-clause-of_map : goal.returns-clause-of_map
returns-clause-of_map g c clean has devices =
    let db = (state g.R.S.Store (g.R.Reads.held c.args.connection.now)).now in
    tells_some_on db devices c.walk_devices.new.found.is_on (on_exactly db has (λ (found : AnyOn). found.is_on) (record { is_on = false }) c.walk_devices.new.found refl (c.in_ok-walk_devices.ensures.walks clean has).all)
