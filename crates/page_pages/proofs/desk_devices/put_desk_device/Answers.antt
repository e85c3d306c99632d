use Rattle.page_pages.specs.DeskDevices.{desk_device}
use Rattle.page_pages.proofs.desk_devices.put_desk_device.Goals as goal

pub returns : goal.returns
unfolding desk_device
returns c = c.put_all.ensures
