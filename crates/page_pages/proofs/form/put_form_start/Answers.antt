use Rattle.page_pages.specs.Forms.{form_start}
use Rattle.page_pages.proofs.form.put_form_start.Goals as goal

pub returns : goal.returns
unfolding form_start
returns c = c.put_all.ensures
