use Rattle.page_pages.specs.DeskForms.{file_form}
use Rattle.page_pages.proofs.desk_form.put_file_form.Goals as goal

pub returns : goal.returns
unfolding file_form
returns c = c.put_all.ensures
