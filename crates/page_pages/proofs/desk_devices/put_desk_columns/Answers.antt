use Rattle.page_pages.specs.DeskDevices.{desk_columns}
use Rattle.page_pages.proofs.desk_devices.put_desk_columns.Goals as goal

pub returns : goal.returns
unfolding desk_columns
returns c = c.put_all.ensures
