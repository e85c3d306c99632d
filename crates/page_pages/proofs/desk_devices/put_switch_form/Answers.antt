use Rattle.page_pages.specs.DeskDevices.{switch_form}
use Rattle.page_pages.proofs.desk_devices.put_switch_form.Goals as goal

pub returns : goal.returns
unfolding switch_form
returns c = c.put_all.ensures
