use Rattle.page_pages.specs.DeskDevices.{rate_form}
use Rattle.page_pages.proofs.desk_devices.put_rate_form.Goals as goal

pub returns : goal.returns
unfolding rate_form
returns c = c.put_all.ensures
