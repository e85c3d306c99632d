use Rattle.page_pages.specs.Forms.{form_end}
use Rattle.page_pages.proofs.form.put_form_end.Goals as goal

pub returns : goal.returns
unfolding form_end
returns c = c.put_all.ensures
