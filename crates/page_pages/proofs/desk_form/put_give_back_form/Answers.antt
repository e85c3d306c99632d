use Rattle.page_pages.specs.DeskForms.{give_back_form}
use Rattle.page_pages.proofs.desk_form.put_give_back_form.Goals as goal

pub returns : goal.returns
unfolding give_back_form
returns c = c.put_all.ensures
