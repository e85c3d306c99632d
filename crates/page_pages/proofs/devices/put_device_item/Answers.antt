use Rattle.page_pages.specs.Devices.{device_item}
use Rattle.page_pages.proofs.devices.put_device_item.Goals as goal

pub returns : goal.returns
unfolding device_item
returns c = c.put_all.ensures
