use Rattle.page_pages.specs.DeskForms.{grant_form}
use Rattle.page_pages.proofs.desk_form.put_grant_form.Goals as goal

pub returns : goal.returns
unfolding grant_form
returns c = c.put_all.ensures
