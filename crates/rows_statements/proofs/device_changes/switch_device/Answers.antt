use Rattle.rows_statements.specs.Rows.{SetsDevice}
use Rattle.rows_statements.specs.Changed.{SwitchesDevice}
use Rattle.rows_statements.proofs.Retelling.{told_as}
use Rattle.rows_statements.proofs.LeftAlone.{turned_alone}
use Rattle.rows_statements.proofs.DevicesHeld.{switched_devices}
use Rattle.rows_statements.proofs.device_changes.switch_device.Goals as goal

pub returns : goal.returns
returns g c = record { turns = told_as g.S.Store c.args.connection.now c.put_device.new.connection (SetsDevice c.args.name c.args.on c.args.is_new) (SwitchesDevice c.args.name c.args.on c.args.is_new) c.put_device.result (λ clean has after made. record { devices = λ devices held is_new. switched_devices c.args.name c.put_device.ensures.name _ _ devices held c.args.on c.args.is_new made is_new; alone = turned_alone c.args.name c.args.on c.args.is_new _ _ made }) c.put_device.ensures.turns }
