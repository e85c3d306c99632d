use Rattle.page_pages.specs.DeskDevices.{devices_title}
use Rattle.page_pages.proofs.desk_devices.put_devices_title.Goals as goal

pub returns : goal.returns
unfolding devices_title
returns c = c.put_all.ensures
