use Rattle.page_pages.specs.DeskForms.{open_form}
use Rattle.page_pages.proofs.desk_form.put_open_form.Goals as goal

pub returns : goal.returns
unfolding open_form
returns c = c.put_all.ensures
