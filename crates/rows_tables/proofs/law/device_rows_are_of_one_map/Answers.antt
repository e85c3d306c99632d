use Rattle.rows_tables.proofs.DeviceRows.{one_map}
use Rattle.rows_tables.proofs.law.device_rows_are_of_one_map.Goals as goal

pub returns : goal.returns
returns c = one_map
