use Rattle.page_pages.specs.DeskForms.{device_form}
use Rattle.page_pages.proofs.desk_form.put_device_form.Goals as goal

pub returns : goal.returns
unfolding device_form
returns c = c.put_all.ensures
