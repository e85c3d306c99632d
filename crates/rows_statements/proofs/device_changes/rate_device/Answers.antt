use Rattle.rows_tables.specs.Cells.{units_cells}
use Rattle.rows_tables.specs.Keyed.{SetsRow}
use Rattle.rows_tables.specs.Tables.{rates as rates_table}
use Rattle.rows_statements.specs.Changed.{RatesDevice}
use Rattle.rows_statements.proofs.Retelling.{told_as}
use Rattle.rows_statements.proofs.LeftAlone.{rate_alone}
use Rattle.rows_statements.proofs.DevicesHeld.{rated_devices}
use Rattle.rows_statements.proofs.device_changes.rate_device.Goals as goal

pub returns : goal.returns
returns g c = record { rates = told_as g.S.Store c.args.connection.now c.put_rate.new.connection (SetsRow rates_table (units_cells c.args.name c.args.units)) (RatesDevice c.args.name c.args.units) c.put_rate.result (λ clean has after made. record { devices = λ devices held known. rated_devices c.args.name c.put_rate.ensures.name _ _ devices held c.args.units c.requires.units.0 c.requires.units.1 made known; alone = rate_alone c.args.name _ _ _ made }) c.put_rate.ensures.sets }
